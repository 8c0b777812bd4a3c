use Prim.Native.Nat.{◌+◌, ◌-◌}
use Rattle.table_marks.proofs.Parts.{Merging}
use Rattle.table_marks.proofs.merge.Given as goal

abbrev pub invariant-loop-j : goal.invariant-loop-j
invariant-loop-j l = Merging l.initial.ws l.k l.n l.new l.ws l.i l.j

abbrev pub decreases-loop-j : goal.decreases-loop-j
decreases-loop-j l = l.k - l.i + (l.n - l.j)
