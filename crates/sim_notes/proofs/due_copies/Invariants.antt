use Rattle.sim_notes.specs.Noted.{row_width, noted, due_notes}
use Rattle.std.proofs.Common.{◌≡◌, ◌*◌, ◌≤◌}
use Rattle.sim_notes.proofs.due_copies.Given as goal

abbrev pub invariant-loop-i : goal.invariant-loop-i
invariant-loop-i l = record { within : l.row ≤ l.i * row_width; is : noted l.figures l.row ≡ due_notes l.initial.figures l.due l.out l.i }
