use Rattle.std.proofs.Common.{◌≡◌, drop}
use Rattle.sim_spelling.specs.Spelling.{digits_of}
use Rattle.sim_spelling.proofs.numbers.of_base.Given as goal

abbrev pub invariant-loop-b : goal.invariant-loop-b
invariant-loop-b l = digits_of l.base l.v (drop l.b-index l.s) ≡ digits_of l.base 0 l.s
