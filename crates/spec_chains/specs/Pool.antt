-- Document 02, M-113: two to eight chains draw waiting slots from one pool: shares, limits, what is left to a chain, and the opening of all or none.
use Rattle.std.specs.Prelude.{ℕ, zero, suc, ◌+◌, ◌-◌, Bool, cond, List, [], ◌∷◌, eqb, leb}
use Rattle.table_rows.specs.Rows.{all_of}
use Rattle.spec_network.specs.Lists.{every, below, within}
use Rattle.spec_network.specs.Opening.{Settings, Opening}
use Rattle.spec_network.specs.Questions.{Asked, ask, first_no}
use Rattle.spec_network.specs.Tables.{Tables}
use Rattle.spec_network.specs.Limits.{range_tests}
use Rattle.spec_network.specs.Real.{opening_of}
use Rattle.spec_network.specs.Open.{lent_tests, limit_tests, open_tables}

-- the sum over the chains below k, and over all of them but i
abbrev pub sum_below : ℕ → (ℕ → ℕ) → ℕ
sum_below zero f = 0
sum_below (suc k) f = f k + sum_below k f

abbrev pub others_below : ℕ → ℕ → (ℕ → ℕ) → ℕ
others_below zero i f = 0
others_below (suc k) i f = cond (eqb k i) 0 (f k) + others_below k i f

-- a chain's waiting copies and its unused share
abbrev pub takes : (share waiting : ℕ) → ℕ
takes share waiting = waiting + (share - waiting)

-- the opening of a bench: the chains' number, the pool's slots, and for each chain its guaranteed share and its opening; its limit stands for its waiting slots
pub record Bench : Type 0 where
  pub chains : ℕ
  pub slots : ℕ
  pub share : ℕ → ℕ
  pub settings : ℕ → Settings
  pub masks : ℕ → List ℕ
  pub lent : ℕ → Tables

abbrev pub limit : Bench → ℕ → ℕ
limit B i = (B.settings i).sizes.wait_slots

-- the pool less the others' waiting copies and unused shares
abbrev pub free_for : Bench → (waiting : ℕ → ℕ) → ℕ → ℕ
free_for B waiting i = B.slots - others_below B.chains i (λ j. takes (B.share j) (waiting j))

-- ---- The opening: each question is asked of every chain before the next

abbrev pub least_chains : ℕ
least_chains = 2

abbrev pub most_chains : ℕ
most_chains = 8

abbrev pub most_pool : ℕ
most_pool = 4096

module _ (B : Bench) where
  abbrev pub of_each : (ℕ → List Bool) → Bool
  of_each tests = all_of (λ i. every (tests i)) (below B.chains)

  -- 22: two to eight chains, a pool of 1 to 4,096 slots, shares that add up to no more than the pool, no limit below its share
  abbrev pub pool_tests : List Bool
  pool_tests =
      leb least_chains B.chains ∷ leb B.chains most_chains ∷ leb 1 B.slots ∷ leb B.slots most_pool ∷ leb (sum_below B.chains B.share) B.slots
      ∷ all_of (λ i. leb (B.share i) (limit B i)) (below B.chains) ∷ []

  abbrev pub asked_bench : List Asked
  asked_bench =
      ask 1 (of_each (λ i. lent_tests (B.settings i) (B.masks i) (B.lent i)))
      ∷ ask 2 (of_each (λ i. limit_tests (B.settings i) (B.masks i) (B.lent i)))
      ∷ ask 22 (every pool_tests)
      ∷ ask 3 (of_each (λ i. range_tests (B.settings i).config))
      ∷ ask 5 (of_each (λ i. all_of (λ m. within m (B.settings i).sizes.shards) (B.masks i) ∷ [])) ∷ []

  abbrev pub bench_number : ℕ
  bench_number = first_no asked_bench

  abbrev pub chain_opening : ℕ → Opening
  chain_opening i = opening_of (B.settings i) (B.lent i).names

  abbrev pub chain_opened : ℕ → Tables
  chain_opened i = open_tables (B.settings i) (B.masks i) (B.lent i)
