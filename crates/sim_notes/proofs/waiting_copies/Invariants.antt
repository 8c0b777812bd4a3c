use Rattle.sim_notes.specs.Noted.{waits_of}
use Rattle.std.proofs.Common.{◌≡◌}
use Rattle.sim_notes.proofs.waiting_copies.Given as goal

abbrev pub invariant-loop-i : goal.invariant-loop-i
invariant-loop-i l = l.figures ≡ waits_of l.initial.figures l.waiting l.i
