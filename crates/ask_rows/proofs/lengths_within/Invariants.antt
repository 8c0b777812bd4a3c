use Rattle.table_scan.specs.Scan.{column}
use Rattle.table_rows.specs.Rows.{all_of}
use lib.ListN.{take}
use lib.Dec.{leb}
use mathlib.Core.Bool.{true}
use Prim.Native.Nat.{ℕ, ◌≤◌}
use mathlib.Core.Path.{◌≡◌}
use Rattle.ask_rows.proofs.lengths_within.Given as goal

abbrev pub invariant-loop-i : goal.invariant-loop-i
invariant-loop-i l = (l.i ≤ l.n) × (all_of (λ (c : ℕ). leb c l.limit) (take l.i (column l.names l.start l.stride l.n)) ≡ true)
