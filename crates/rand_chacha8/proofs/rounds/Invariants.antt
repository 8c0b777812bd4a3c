use Rattle.rand_chacha8.specs.Chacha.{double_rounds}
use Rattle.math_word.specs.Words.{list_of}
use mathlib.Core.Path.{◌≡◌}
use Rattle.rand_chacha8.proofs.rounds.Given as goal

abbrev pub invariant-loop : goal.invariant-loop
invariant-loop l = list_of l.state ≡ double_rounds l.counter (list_of l.fn.v)
