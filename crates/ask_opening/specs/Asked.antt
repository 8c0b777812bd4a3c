-- Document 01, questions 1, 2, 3 and 5 at the opening, of the lengths of the lent tables: `Open.open_number` by what it reads of them (`Number.number_is`).
use Rattle.std.specs.Prelude.{ℕ, Bool, List, [], ◌∷◌, ◌++◌, eqb, length}
use Rattle.table_rows.specs.Rows.{all_of}
use Rattle.spec_network.specs.Lists.{every, within}
use Rattle.spec_network.specs.Opening.{Settings}
use Rattle.spec_network.specs.Questions.{ask, first_no}
use Rattle.spec_network.specs.Limits.{size_tests, text_tests, unlike_tests, range_tests}
use Rattle.spec_network.specs.Real.{key_width, prices_width}
use Rattle.spec_network.specs.Open.{Lengths, lengths_of}
use Rattle.ask_opening.specs.declared.RegionPlan.{RegionPlan}
use Rattle.ask_opening.specs.declared.TableLengths.{TableLengths}
use Rattle.ask_opening.specs.Given.{plan_of}

unfoldable pub fits_prices : ℕ → RegionPlan → ℕ → Bool
fits_prices n p tills = eqb n (prices_width (plan_of p) tills)

-- the tables have lengths m
abbrev pub front_tests : Lengths → TableLengths → List Bool
front_tests m n =
    eqb n.setup m.setup ∷ eqb n.net m.net ∷ eqb n.names m.names ∷ eqb n.tills m.tills ∷ eqb n.words m.words
    ∷ eqb n.keys m.keys ∷ eqb n.prices m.prices ∷ []

abbrev pub back_tests : Lengths → TableLengths → List Bool
back_tests m n =
    eqb n.seen m.seen ∷ eqb n.waiting m.waiting ∷ eqb n.rings m.rings ∷ eqb n.rules m.rules ∷ eqb n.blocks m.blocks
    ∷ eqb n.log m.log ∷ []

abbrev pub table_tests : Lengths → TableLengths → List Bool
table_tests m n = front_tests m n ++ back_tests m n

-- the fault stream's key has 8 words, and there is a mask for each till
abbrev pub given_tests : (tills : ℕ) → (key masks : List ℕ) → List Bool
given_tests tills key masks = eqb (length key) key_width ∷ eqb (length masks) tills ∷ []

abbrev pub limit_tests : Settings → (names : List ℕ) → List Bool
limit_tests x names = every (size_tests x) ∷ every (text_tests x.sizes names) ∷ every (unlike_tests x.sizes names) ∷ []

-- the number of the first question whose answer is "no", or 0
unfoldable pub number_of : Settings → TableLengths → (masks names : List ℕ) → ℕ
number_of x n masks names =
    first_no
    (ask 1 (every (table_tests (lengths_of x) n ++ given_tests x.sizes.tills x.fault_key masks))
    ∷ ask 2 (every (limit_tests x names))
    ∷ ask 3 (every (range_tests x.config))
    ∷ ask 5 (all_of (λ m. within m x.sizes.shards) masks)
    ∷ [])
