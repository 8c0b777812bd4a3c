use Rattle.sim_notes.specs.Noted.{tallies_of}
use Rattle.std.proofs.Common.{◌≡◌}
use Rattle.sim_notes.proofs.tallies_of.Given as goal

abbrev pub invariant-loop-class : goal.invariant-loop-class
invariant-loop-class l = l.figures ≡ tallies_of l.initial.figures l.setup l.log l.class
