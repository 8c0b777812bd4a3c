use Rattle.sim_notes.specs.Noted.{transits_of}
use Rattle.std.proofs.Common.{◌≡◌}
use Rattle.sim_notes.proofs.transits_of.Given as goal

abbrev pub invariant-loop-t : goal.invariant-loop-t
invariant-loop-t l = l.figures ≡ transits_of l.initial.figures l.setup l.net l.waiting l.t
