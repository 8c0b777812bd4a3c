use Prim.Native.Nat.{◌+◌, ◌≤◌}
use mathlib.Core.Path.{◌≡◌}
use Rattle.table_marks.specs.Marks.{halve}
use Rattle.table_marks.proofs.halve_on.Given as goal

abbrev pub invariant-loop-n : goal.invariant-loop-n
invariant-loop-n l = (l.lo + l.n ≤ l.initial.lo + l.initial.n) × (halve l.initial.n l.ids l.id l.initial.lo l.initial.n ≡ halve l.n l.ids l.id l.lo l.n)

abbrev pub decreases-loop-n : goal.decreases-loop-n
decreases-loop-n l = l.n
