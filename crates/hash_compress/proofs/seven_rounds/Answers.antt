use native.Mathlib.Omega.{arith}
use Rattle.hash_compress.proofs.Laws.{rounds_turn, rounds_done}
use Rattle.math_word.specs.Words.{list_of}
use mathlib.Core.Path.{◌∙◌}
use Rattle.hash_compress.proofs.seven_rounds.Goals as goal

pub loop-preserved : goal.loop-preserved
loop-preserved c = let l = c.loop in
    rounds_turn l.counter (list_of l.state) (list_of l.message) (omega arith) c.round-state.ensures c.permute-message.ensures ∙ l.invariant

pub returns : goal.returns
returns c = let l = c.loop in
    rounds_done l.counter (list_of l.state) (list_of l.message) (omega arith) (omega arith) l.invariant
