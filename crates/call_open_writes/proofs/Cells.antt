-- The cells of `setup`, of the words of a key, and of a plan's prices. Assumes nothing.
use mathlib.Core.Path.{◌≡◌, refl, sym, ap, ◌∙◌}
use mathlib.Core.Bool.{Bool, true, false, cond}
use mathlib.Core.List.{List, [], ◌∷◌, ◌++◌, append_assoc, append-nil}
use Prim.Native.Nat.{ℕ, zero, suc, ◌+◌, ◌-◌, ◌*◌, ◌/◌, ◌%◌, ◌^◌, ◌≤◌, ◌<◌}
use native.Mathlib.Nat.{add-zero, mul-le-mul, mod-le, div-le_self}
use native.Mathlib.Omega.{arith}
use lib.Dec.{eqb}
use lib.ListN.{length, take, drop, set, replicate, length-append, length-take, length-replicate, drop_of_length-le, take-append-drop}
use lib.Seq.{take_at, drop_at, drop-drop}
use borrow.Rule.Slice.PartMut.{put_mid}
use borrow.Author.Tests.{eq-eqb, ne_eqb}
use Rattle.math_word.specs.Word.{le_word}
use Rattle.table_rows.specs.Lists.{up_to}
use Rattle.table_rows.proofs.Lists.{length_up_to}
use Rattle.table_shift.specs.Shift.{put_words}
use Rattle.rand_streams.specs.Link.{link_key}
use Rattle.link_geography.specs.Geography.{region_of, prices_of}
use Rattle.link_geography.proofs.Prices.{length_prices}
use Rattle.spec_network.specs.Opening.{Settings}
use Rattle.spec_network.specs.Lists.{every}
use Rattle.spec_network.specs.Limits.{range_tests}
use Rattle.spec_network.specs.Tables.{setup_of}
use Rattle.spec_network.specs.Real.{key_width, keys_of, pair_cells, prices_width, priced_by}
use Rattle.spec_network.proofs.Opened.{length_hash}
use Rattle.ask_opening.specs.declared.NetworkConfig.{NetworkConfig}
use Rattle.ask_opening.specs.declared.NetworkSizes.{NetworkSizes}
use Rattle.ask_opening.specs.declared.RegionPlan.{RegionPlan}
use Rattle.ask_opening.specs.Given.{bits_of, config_of, plan_of, settings_of, key_bytes}
use Rattle.ask_opening.proofs.Ladder.{all_pass}
use Rattle.ask_opening.proofs.Sums.{key_whole}
use Rattle.ask_opening.proofs.Rates.{rate_is_number, fraction_is_number}
use lib.Ieee.{is_nan}
use Rattle.call_open_writes.specs.Written.{link_keys, prices_for}
use Rattle.call_open_writes.proofs.Filled.{cell_more, up_to_more}

-- ---- `setup`

-- rates that passed are numbers
pub record Numbers (c : NetworkConfig) : Type 0 where
  pub jitter : is_nan c.jitter ≡ false
  pub loss : is_nan c.loss ≡ false
  pub duplicate : is_nan c.duplicate ≡ false
  pub replay : is_nan c.replay ≡ false
  pub spike : is_nan c.spike ≡ false

pub numbers : (c : NetworkConfig) → every (range_tests (config_of c)) ≡ true → Numbers c
numbers c h =
    let e = all_pass (range_tests (config_of c)) h in
    record {
      jitter = fraction_is_number c.jitter e.1.0;
      loss = rate_is_number c.loss e.1.1.0;
      duplicate = rate_is_number c.duplicate e.1.1.1.0;
      replay = rate_is_number c.replay e.1.1.1.1.0;
      spike = rate_is_number c.spike e.1.1.1.1.1.0;
    }

module _ (c : NetworkConfig) (z : NetworkSizes) (p : RegionPlan) (seed : ℕ) (key : List ℕ) where
  abbrev row : (jitter loss duplicate replay spike : ℕ) → List ℕ → List ℕ
  row jitter loss duplicate replay spike words =
      z.tills ∷ z.types ∷ z.classes ∷ z.shards ∷ z.seen ∷ z.waiting ∷ z.log ∷ c.latency ∷ jitter ∷ loss ∷ duplicate ∷ replay ∷ spike
      ∷ p.planned ∷ p.regions ∷ p.seed ∷ seed ∷ words

  pub setup_made : length key ≡ key_bytes → (j l d r s k0 k1 k2 k3 k4 k5 k6 k7 : ℕ)
      → j ≡ bits_of c.jitter → l ≡ bits_of c.loss → d ≡ bits_of c.duplicate → r ≡ bits_of c.replay → s ≡ bits_of c.spike
      → k0 ≡ le_word key 0 → k1 ≡ le_word key 4 → k2 ≡ le_word key 8 → k3 ≡ le_word key 12 → k4 ≡ le_word key 16 → k5 ≡ le_word key 20 → k6 ≡ le_word key 24 → k7 ≡ le_word key 28
      → row j l d r s (k0 ∷ k1 ∷ k2 ∷ k3 ∷ k4 ∷ k5 ∷ k6 ∷ k7 ∷ []) ≡ setup_of (settings_of c z p seed key)
  setup_made long j l d r s k0 k1 k2 k3 k4 k5 k6 k7 ej el ed er es e0 e1 e2 e3 e4 e5 e6 e7 =
      (λ i. row (ej i) (el i) (ed i) (er i) (es i) (e0 i ∷ e1 i ∷ e2 i ∷ e3 i ∷ e4 i ∷ e5 i ∷ e6 i ∷ e7 i ∷ []))
      ∙ ap (row (bits_of c.jitter) (bits_of c.loss) (bits_of c.duplicate) (bits_of c.replay) (bits_of c.spike)) (sym (key_whole key long))

-- ---- Keys

-- a key's words, stored
pub key_stored : (l key v : List ℕ) (b k : ℕ) → v ≡ key → k ≡ length key → put_mid b k l v ≡ put_words l b key
unfolding put_words
key_stored l key v b k e f =
    ap (λ (y : List ℕ). take b l ++ (y ++ drop k (drop b l))) e
    ∙ ap (λ (y : List ℕ). take b l ++ (key ++ y)) (drop-drop k b l ∙ ap (λ (i : ℕ). drop (b + i) l) f)

pub link_long : (seed from to : ℕ) → length (link_key seed from to) ≡ key_width
unfolding link_key
link_long seed from to = length_hash _

-- a pair's place among the pairs
pub pair_most : (n : ℕ) → n ≤ 64 → n * n ≤ 4096
pair_most n h = mul-le-mul h h

-- where there is a pair, there is a till
module _ (i n : ℕ) (h : n ≤ 64) (k : i < n * n) where
  pub some_till : 0 < n
  some_till = go n k
    where
      go : (n : ℕ) → i < n * n → 0 < n
      go zero q = absurd (omega arith)
      go (suc n) q = omega arith

-- and fit 32 bits
pub quotient_fits : (a n : ℕ) → a < 2 ^ 32 → a / n < 2 ^ 32
quotient_fits a n h = omega (arith, div-le_self a n)

pub remainder_fits : (a n : ℕ) → a < 2 ^ 32 → a % n < 2 ^ 32
remainder_fits a n h = omega (arith, mod-le a n)

pub keys_of_lem : (x : Settings) → link_keys x.seed x.sizes.tills ≡ keys_of x
unfolding link_keys keys_of
keys_of_lem x = refl

-- ---- Prices

module _ (f : ℕ → ℕ) (n t : ℕ) (l now : List ℕ) where
  pub region_more : (v : ℕ) → n + t < length l → v ≡ f t → now ≡ (take n l ++ up_to t f) ++ drop (n + t) l → set now (n + t) v ≡ (take n l ++ up_to (t + 1) f) ++ drop (n + (t + 1)) l
  region_more v h q e =
      let a : length (take n l ++ up_to t f) ≡ n + t = length-append (take n l) (up_to t f) ∙ omega (arith, length-take n l, length_up_to t f) in
      let s : n + t + 1 ≡ n + (t + 1) = omega arith in
      cell_more (take n l ++ up_to t f) l now (n + t) v a h e
      ∙ ap (λ (k : ℕ). ((take n l ++ up_to t f) ++ (v ∷ [])) ++ drop k l) s
      ∙ ap (λ (x : List ℕ). x ++ drop (n + (t + 1)) l) (append_assoc (take n l) (up_to t f) (v ∷ []) ∙
      ap (λ (x : List ℕ). take n l ++ x) (ap (λ (k : ℕ). up_to t f ++ (k ∷ [])) q ∙ sym (up_to_more t f)))

  pub regions_all : (tills : ℕ) → t ≡ tills → length l ≡ n + tills → now ≡ (take n l ++ up_to t f) ++ drop (n + t) l → now ≡ take n l ++ up_to tills f
  regions_all tills e h q =
      q ∙ ap (λ (k : ℕ). (take n l ++ up_to k f) ++ drop (n + k) l) e
      ∙ ap (λ (x : List ℕ). (take n l ++ up_to tills f) ++ x) (drop_of_length-le l {i = n + tills} (omega arith)) ∙ append-nil (take n l ++ up_to tills f)

  pub no_regions : t ≡ 0 → n ≤ length l → now ≡ l → now ≡ (take n l ++ up_to t f) ++ drop (n + t) l
  no_regions e h q = q ∙ sym (take-append-drop n l) ∙ ap (λ (x : List ℕ). x ++ drop n l) (sym (append-nil (take n l))) ∙
      sym (ap (λ (k : ℕ). (take n l ++ up_to k f) ++ drop (n + k) l) e ∙ ap (λ (k : ℕ). (take n l ++ []) ++ drop k l) (add-zero n))

-- the pairs of regions, priced in the front part of a cleared table
pub pairs_priced : (seed regions n : ℕ) (l cleared last : List ℕ) → cleared ≡ replicate n 0 ++ drop n l → last ≡ prices_of seed regions (take (n - 0) cleared)
    → last ++ drop (n - 0) cleared ≡ prices_of seed regions (replicate n 0) ++ drop n l
pairs_priced seed regions n l cleared last e q =
    let z : n - 0 ≡ n = omega arith in
    let r : length (replicate {A = ℕ} n 0) ≡ n = length-replicate n 0 in
    let front : take (n - 0) cleared ≡ replicate n 0 = (λ j. take (z j) (e j)) ∙ take_at (replicate n 0) (drop n l) n r in
    let back : drop (n - 0) cleared ≡ drop n l = (λ j. drop (z j) (e j)) ∙ drop_at (replicate n 0) (drop n l) n r in
    (λ j. q j ++ back j) ∙ ap (λ (x : List ℕ). prices_of seed regions x ++ drop n l) front

module _ (p : RegionPlan) (tills : ℕ) where
  pub unpriced : (l : List ℕ) → p.planned ≡ 0 → length l ≡ prices_width (plan_of p) tills → l ≡ prices_for (plan_of p) tills
  unfolding prices_for
  unpriced l h e =
      let b : eqb p.planned 0 ≡ true = eq-eqb p.planned 0 h in
      empty l (e ∙ ap (λ (c : Bool). cond c 0 (pair_cells (plan_of p) + tills)) b)
      ∙ sym (ap (λ (c : Bool). cond c [] (prices_of p.seed p.regions (replicate (pair_cells (plan_of p)) 0) ++ up_to tills (λ t. region_of p.seed p.regions t))) b)
    where
      empty : (l : List ℕ) → length l ≡ 0 → l ≡ []
      empty [] k = refl
      empty (a ∷ l) k = absurd (omega arith)

  pub price_width : (p.planned ≡ 0 → ⊥) → prices_width (plan_of p) tills ≡ pair_cells (plan_of p) + tills
  price_width h = ap (λ (c : Bool). cond c 0 (pair_cells (plan_of p) + tills)) (ne_eqb p.planned 0 h)

  pub priced : (l mid last : List ℕ) (n : ℕ) → (p.planned ≡ 0 → ⊥) → n ≡ length l - tills → length l ≡ prices_width (plan_of p) tills
      → mid ≡ prices_of p.seed p.regions (replicate n 0) ++ drop n l → last ≡ take n mid ++ up_to tills (λ t. region_of p.seed p.regions t) → last ≡ prices_for (plan_of p) tills
  unfolding prices_for
  priced l mid last n h e k q w =
      let m : n ≡ pair_cells (plan_of p) = omega (arith, price_width h) in
      let long : length (prices_of p.seed p.regions (replicate n 0)) ≡ n = length_prices p.seed p.regions (replicate n 0) ∙ length-replicate n 0 in
      w ∙ ap (λ (x : List ℕ). x ++ up_to tills (λ t. region_of p.seed p.regions t))
      (ap (take n) q ∙ take_at (prices_of p.seed p.regions (replicate n 0)) (drop n l) n long ∙ ap (λ (j : ℕ). prices_of p.seed p.regions (replicate j 0)) m)
      ∙ sym (ap (λ (c : Bool). cond c [] (prices_of p.seed p.regions (replicate (pair_cells (plan_of p)) 0) ++ up_to tills (λ t. region_of p.seed p.regions t))) (ne_eqb p.planned 0 h))

pub priced_by_lem : (x : Settings) → prices_for x.plan x.sizes.tills ≡ priced_by x
unfolding prices_for priced_by
priced_by_lem x = refl
