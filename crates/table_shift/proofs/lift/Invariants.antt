use Rattle.table_shift.specs.Shift.{opened}
use lib.ListN.{length}
use mathlib.Core.Path.{◌≡◌}
use Prim.Native.Nat.{◌≤◌}
use Rattle.table_shift.proofs.lift.Given as goal

abbrev pub invariant-loop-k : goal.invariant-loop-k
invariant-loop-k g l = (l.k ≤ l.n) × (length l.ws ≡ length l.initial.ws) × (l.ws ≡ opened l.initial.ws l.k l.n g.row.BY)
