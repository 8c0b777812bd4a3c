use Prim.Native.Nat.{◌≤◌}
use mathlib.Core.Path.{◌≡◌}
use mathlib.Core.Bool.{true}
use lib.ListN.{take}
use Rattle.table_rows.specs.Rows.{all_of}
use Rattle.table_rings.specs.Rings.{count_of, entries}
use Rattle.table_scan.specs.Scan.{near_entry}
use Rattle.table_scan.proofs.entries_near.Given as goal

abbrev pub invariant-loop-k : goal.invariant-loop-k
invariant-loop-k l = (l.count ≡ count_of l.ws l.r) × (l.k ≤ l.count) × (all_of (near_entry l.l) (take l.k (entries l.rings l.ws l.r)) ≡ true)
