-- The lengths of the tables as sums, in the form that is tested. Assumes nothing.
use mathlib.Core.Path.{◌≡◌, sym, ap, ◌∙◌}
use mathlib.Core.Bool.{Bool, true, false, cond}
use mathlib.Core.List.{List, []}
use Prim.Native.Nat.{ℕ, ◌+◌, ◌*◌}
use native.Mathlib.Omega.{arith}
use lib.Dec.{eqb}
use lib.ListN.{length}
use borrow.Author.Tests.{eq-eqb, ne_eqb}
use Rattle.math_word.specs.Word.{le_word}
use Rattle.table_rows.specs.Lists.{up_to}
use Rattle.link_geography.specs.Geography.{at_least_one}
use Rattle.table_delivery.specs.Delivery as delivery
use Rattle.table_waiting.specs.Waiting as waiting
use Rattle.table_rings.specs.Rings as rings
use Rattle.table_log.specs.Log as log
use Rattle.spec_network.specs.Tables.{till_form}
use Rattle.spec_network.specs.Real.{key_width, prices_width}
use Rattle.ask_opening.specs.declared.RegionPlan.{RegionPlan}
use Rattle.ask_opening.specs.Given.{key_words, key_bytes, plan_of}
use Rattle.ask_opening.specs.Asked.{fits_prices}

-- prices
module _ (n : ℕ) (p : RegionPlan) (tills : ℕ) where
  pub no_prices : p.planned ≡ 0 → eqb n 0 ≡ fits_prices n p tills
  unfolding fits_prices
  no_prices h = sym (ap (λ (b : Bool). eqb n (cond b 0 (2 * (at_least_one p.regions * at_least_one p.regions) + tills))) (eq-eqb p.planned 0 h))

  pub some_prices : (r : Bool) (k : ℕ) → (p.planned ≡ 0 → ⊥) → k ≡ at_least_one p.regions → r ≡ eqb n (tills + 2 * (k * k)) → r ≡ fits_prices n p tills
  unfolding fits_prices
  some_prices r k h e q =
      let t : tills + 2 * (k * k) ≡ 2 * (k * k) + tills = omega arith in
      q ∙ ap (eqb n) (t ∙ ap (λ (j : ℕ). 2 * (j * j) + tills) e)
      ∙ sym (ap (λ (b : Bool). eqb n (cond b 0 (2 * (at_least_one p.regions * at_least_one p.regions) + tills))) (ne_eqb p.planned 0 h))

pub one_region : (r : ℕ) → r ≡ 0 → 1 ≡ at_least_one r
unfolding at_least_one
one_region r h = omega arith

pub more_regions : (r : ℕ) → (r ≡ 0 → ⊥) → r ≡ at_least_one r
unfolding at_least_one
more_regions r h = omega (arith, h)

-- a length in the form that is tested
pub formed : (n m k : ℕ) (r b : Bool) → m ≡ k → r ≡ eqb n k → r ≡ b → eqb n m ≡ b
formed n m k r b e h q = ap (eqb n) e ∙ sym h ∙ q

-- 32 bytes are a key, and nothing else is
pub key_whole : (bytes : List ℕ) → length bytes ≡ key_bytes → key_words bytes ≡ up_to key_width (λ i. le_word bytes (4 * i))
unfolding key_words
key_whole bytes h = ap (λ (b : Bool). cond b (up_to key_width (λ i. le_word bytes (4 * i))) []) (eq-eqb (length bytes) key_bytes h)

pub key_long : (bytes : List ℕ) → length bytes ≡ key_bytes → eqb (length (key_words bytes)) key_width ≡ true
key_long bytes h = ap (λ (l : List ℕ). eqb (length l) key_width) (key_whole bytes h)

pub key_other : (bytes : List ℕ) → (length bytes ≡ key_bytes → ⊥) → eqb (length (key_words bytes)) key_width ≡ false
unfolding key_words
key_other bytes h = ap (λ (b : Bool). eqb (length (cond b (up_to key_width (λ i. le_word bytes (4 * i))) [])) key_width) (ne_eqb (length bytes) key_bytes h)

pub priced : (n : ℕ) (p : RegionPlan) (tills : ℕ) (r b : Bool) → r ≡ fits_prices n p tills → r ≡ b → eqb n (prices_width (plan_of p) tills) ≡ b
unfolding fits_prices
priced n p tills r b h q = sym h ∙ q

-- the tables' lengths as sums
pub tills_sum : (n : ℕ) → n * till_form.width ≡ 0 + till_form.width * (n * 1)
tills_sum n = omega arith

pub keys_sum : (n : ℕ) → n * n * key_width ≡ 0 + key_width * (n * n)
keys_sum n = omega arith

pub seen_sum : (n k : ℕ) → n + n * k ≡ n + 1 * (n * k)
seen_sum n k = omega arith

pub waiting_sum : (n : ℕ) → n * waiting.width ≡ 0 + waiting.width * (n * 1)
waiting_sum n = omega arith

pub rings_sum : (n : ℕ) → n * rings.scopes * (rings.head_width + rings.span) ≡ 0 + rings.scopes * (rings.head_width + rings.span) * (n * 1)
rings_sum n = omega arith

pub log_sum : (n : ℕ) → log.size_of n ≡ log.records_at + delivery.width * (n * 1)
log_sum n = omega arith
