use Prim.Native.Nat.{ℕ, ◌≤◌}
use mathlib.Core.Path.{◌≡◌}
use mathlib.Core.Bool.{true}
use lib.ListN.{take}
use Rattle.table_rows.specs.Rows.{all_of}
use Rattle.table_rows.specs.Lists.{up_to}
use Rattle.table_scan.specs.Scan.{ring_near}
use Rattle.table_scan.proofs.rings_near.Given as goal

abbrev pub invariant-loop-r : goal.invariant-loop-r
invariant-loop-r l = (l.r ≤ l.rings) × (all_of (ring_near l.l l.rings l.ws) (take l.r (up_to l.rings (λ (k : ℕ). k))) ≡ true)
