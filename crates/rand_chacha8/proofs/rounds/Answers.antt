use native.Mathlib.Omega.{arith}
use Rattle.rand_chacha8.proofs.Laws.{rounds_turn, rounds_done}
use Rattle.rand_chacha8.specs.Chacha.{double_rounds}
use Rattle.math_word.specs.Words.{list_of}
use mathlib.Core.Path.{refl}
use Rattle.rand_chacha8.proofs.rounds.Goals as goal

pub loop-init : goal.loop-init
unfolding double_rounds
loop-init c = refl

pub loop-preserved : goal.loop-preserved
loop-preserved c = let l = c.loop in rounds_turn l.counter _ (list_of l.state) l.invariant c.double_round-state.ensures

pub returns : goal.returns
returns c = let l = c.loop in rounds_done l.counter _ (omega arith) (omega arith) l.invariant
