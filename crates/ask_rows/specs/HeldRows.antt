-- Document 01, question 1: the parts that a function of its own answers: the limits of a scan, and the prices of a plan.
use Rattle.std.specs.Prelude.{Bool, ◌&&◌, List, ℕ, ◌+◌, ◌*◌, eqb, ltb, length}
use Rattle.table_rows.specs.Rows.{all_of}
use Rattle.link_geography.specs.Geography.{link_width, link_in, link_admitted}
use Rattle.table_scan.specs.declared.Limits.{Limits}
use Rattle.spec_network.specs.Lists.{below}
use Rattle.spec_network.specs.Opening.{Sizes, longest_wire}
use Rattle.spec_network.specs.Tables.{cell}

abbrev pub limits_of : Sizes → Limits
limits_of z = record { hosts = z.tills; kinds = z.types; classes = z.classes; wire = longest_wire }

unfoldable pub links_admitted : List ℕ → (pairs : ℕ) → Bool
links_admitted prices pairs = all_of (λ i. link_admitted (link_in prices i)) (below pairs)

-- the region of each till, behind the links
unfoldable pub regions_below : List ℕ → (start tills regions : ℕ) → Bool
regions_below prices start tills regions = all_of (λ t. ltb (cell prices (start + t)) regions) (below tills)

-- the prices of a plan of so many regions, 1 at least
unfoldable pub plan_held : List ℕ → (regions tills : ℕ) → Bool
plan_held prices regions tills =
    eqb (length prices) (link_width * (regions * regions) + tills)
    && (links_admitted prices (regions * regions) && regions_below prices (link_width * (regions * regions)) tills regions)
