-- Document 01, 'The book', Opening: the link keys and the prices that an opening writes.
use Rattle.std.specs.Prelude.{ℕ, ◌*◌, ◌/◌, ◌%◌, cond, List, [], ◌++◌, eqb, replicate}
use Rattle.table_rows.specs.Lists.{up_to}
use Rattle.table_rows.specs.Rows.{flat}
use Rattle.rand_streams.specs.Link.{link_key}
use Rattle.link_geography.specs.Geography.{region_of, prices_of}
use Rattle.spec_network.specs.Opening.{Plan}
use Rattle.spec_network.specs.Real.{pair_cells}

-- the keys of the links between n tills
unfoldable pub link_keys : (seed n : ℕ) → List ℕ
link_keys seed n = flat (λ i. link_key seed (i / n) (i % n)) (up_to (n * n) (λ i. i))

unfoldable pub prices_for : Plan → (tills : ℕ) → List ℕ
prices_for p tills = cond (eqb p.planned 0) [] (prices_of p.seed p.regions (replicate (pair_cells p) 0) ++ up_to tills (λ t. region_of p.seed p.regions t))
