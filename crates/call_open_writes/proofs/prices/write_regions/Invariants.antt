use Prim.Native.Nat.{◌+◌}
use mathlib.Core.Path.{◌≡◌}
use mathlib.Core.List.{◌++◌}
use lib.ListN.{length, take, drop}
use Rattle.table_rows.specs.Lists.{up_to}
use Rattle.link_geography.specs.Geography.{region_of}
use Rattle.call_open_writes.proofs.prices.write_regions.Given as goal

abbrev pub invariant-loop-t : goal.invariant-loop-t
invariant-loop-t l = (length l.prices ≡ length l.initial.prices) × (l.prices ≡ (take l.n l.initial.prices ++ up_to l.t (λ t. region_of l.seed l.regions t)) ++ drop (l.n + l.t) l.initial.prices)
