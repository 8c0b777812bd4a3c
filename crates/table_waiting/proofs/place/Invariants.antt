use Rattle.std.proofs.Common.{◌≤◌, not}
use Rattle.table_rows.proofs.Fronts.{NoneFrom}
use Rattle.table_waiting.specs.Waiting.{form, before}
use Rattle.table_waiting.proofs.place.Given as goal

-- c is before the copies from row i on
abbrev pub invariant-loop-i : goal.invariant-loop-i
invariant-loop-i l = record { in_range : l.i ≤ l.n; so_far : NoneFrom form (λ r. not (before l.c r)) l.ws l.n l.i }

abbrev pub decreases-loop-i : goal.decreases-loop-i
decreases-loop-i l = l.i
