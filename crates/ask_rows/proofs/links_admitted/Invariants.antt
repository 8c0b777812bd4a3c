use Rattle.link_geography.specs.Geography.{link_in, link_admitted}
use Rattle.spec_network.specs.Lists.{below}
use Rattle.table_rows.specs.Rows.{all_of}
use lib.ListN.{take}
use mathlib.Core.Bool.{true}
use Prim.Native.Nat.{◌≤◌}
use mathlib.Core.Path.{◌≡◌}
use Rattle.ask_rows.proofs.links_admitted.Given as goal

abbrev pub invariant-loop-i : goal.invariant-loop-i
invariant-loop-i l = (l.i ≤ l.n) × (all_of (λ k. link_admitted (link_in l.prices k)) (take l.i (below l.n)) ≡ true)
