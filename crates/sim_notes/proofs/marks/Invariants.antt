use Rattle.sim_notes.specs.Noted.{total_of}
use Rattle.std.proofs.Common.{◌≡◌}
use Rattle.sim_notes.proofs.marks.Given as goal

abbrev pub invariant-loop-t : goal.invariant-loop-t
invariant-loop-t l = l.total ≡ total_of l.seen l.t
