-- What the functions of the links' prices owe, each as a law over plain variables.
use Prim.Native.Nat.{ℕ, zero, suc, ◌+◌, ◌-◌, ◌*◌, ◌^◌, ◌<◌, ◌≤◌}
use mathlib.Core.Path.{◌≡◌, refl, ap, ap₂, sym, ◌∙◌, subst}
use mathlib.Core.Bool.{Bool, true, false}
use mathlib.Core.List.{List}
use native.Mathlib.Omega.{arith}
use native.Mathlib.Numerals.{add-one}
use lib.Dec.{leb}
use lib.ListN.{length, get_or, set, length-set, get_or-eq_default}
use lib.Seq.{set_out}
use borrow.Author.Tests.{leb-true, leb-false}
use Rattle.std.specs.Prelude.{min}
use Rattle.rand_streams.specs.declared.Cursor.{Cursor}
use Rattle.rand_streams.specs.Streams.{Moved}
use Rattle.rand_draw.specs.Draw.{words64_at}
use Rattle.rand_draw.proofs.Laws.{words_most}
use Rattle.link_geography.specs.declared.Link.{Link}
use Rattle.link_geography.specs.declared.Cost.{Cost}
use Rattle.link_geography.specs.declared.Band.{Band}
use Rattle.link_geography.specs.Bytes.{derive, links}
use Rattle.link_geography.specs.Geography.{
  most_regions,
  at_least_one,
  transmission_of,
  link_of,
  band_of,
  drawn_link,
  link_words,
  row_count,
  all_count,
  pair_link,
  link_in,
  put_link,
  put_pair,
  priced_row,
  priced_all,
  prices_of,
  link_at,
  link_cost,
  cost_of,
  Stands,
}

-- ---- the words that are taken
pub link_words_most : (key : List ℕ) (count : ℕ) (s : Band) → link_words key count s ≤ 8
unfolding link_words
link_words_most key count s = omega (arith, words_most key count s.bases, words_most key (count + words64_at key count s.bases) s.rates)

pub row_count_most : (key : List ℕ) (a count k : ℕ) → row_count key a count k ≤ count + 8 * k
unfolding row_count
row_count_most key a count zero = omega arith
row_count_most key a count (suc k) = omega (arith, row_count_most key a count k, link_words_most key (row_count key a count k) (band_of a (a + k)))

pub all_count_most : (key : List ℕ) (R k : ℕ) → R ≤ most_regions → all_count key R k ≤ 128 * k
unfolding all_count
all_count_most key R zero h = omega arith
all_count_most key R (suc k) h = omega (arith, all_count_most key R k h, row_count_most key k (all_count key R k) (R - k))

pub row_room : (key : List ℕ) (R a k : ℕ) {x : ℕ} → R ≤ most_regions → a < R → a + k < R → x ≡ row_count key a (all_count key R a) k → x + 7 < 2 ^ 63
row_room key R a k h p q e = omega (arith, all_count_most key R a h, row_count_most key a (all_count key R a) k)

-- ---- the writes
module _ (t : List ℕ) (short : length t < 2 ^ 64) where
  -- a place past every number of 64 bits is past the table
  set_at : (x y v : ℕ) → x ≡ min y (2 ^ 64 - 1) → set t x v ≡ set t y v
  set_at x y v e = go (leb y (2 ^ 64 - 1)) refl
    where
      go : (b : Bool) → leb y (2 ^ 64 - 1) ≡ b → set t x v ≡ set t y v
      go true h = ap (λ k. set t k v) (omega (arith, e, leb-true y (2 ^ 64 - 1) h))
      go false h = set_out t x v (omega (arith, e, leb-false y (2 ^ 64 - 1) h)) ∙ sym (set_out t y v (omega (arith, leb-false y (2 ^ 64 - 1) h)))

  read_at : (x y : ℕ) → x ≡ min y (2 ^ 64 - 1) → get_or t x 0 ≡ get_or t y 0
  read_at x y e = go (leb y (2 ^ 64 - 1)) refl
    where
      go : (b : Bool) → leb y (2 ^ 64 - 1) ≡ b → get_or t x 0 ≡ get_or t y 0
      go true h = ap (λ k. get_or t k 0) (omega (arith, e, leb-true y (2 ^ 64 - 1) h))
      go false h = get_or-eq_default t 0 (omega (arith, e, leb-false y (2 ^ 64 - 1) h)) ∙ sym (get_or-eq_default t 0 (omega (arith, leb-false y (2 ^ 64 - 1) h)))

pub linked : (t : List ℕ) (i : ℕ) (l : Link) {at next : ℕ} {u v : List ℕ} → length t < 2 ^ 64 → at ≡ min (2 * i) (2 ^ 64 - 1) → next ≡ min (at + 1) (2 ^ 64 - 1)
    → u ≡ set t at l.base.ns → v ≡ set u next l.rate → v ≡ put_link t i l
unfolding put_link
linked t i l {at} {next} {u} {v} short p n q r =
    let first : u ≡ set t (2 * i) l.base.ns = q ∙ set_at t short at (2 * i) l.base.ns p in
    let same : length (set t (2 * i) l.base.ns) ≡ length t = length-set t (2 * i) l.base.ns in
    r ∙ ap (λ z. set z next l.rate) first ∙ set_at (set t (2 * i) l.base.ns) (omega (arith, same, short)) next (2 * i + 1) l.rate (omega (arith, p, n))

pub paired : (t : List ℕ) (R a b : ℕ) (l : Link) {u v : List ℕ} → u ≡ put_link t (a * R + b) l → v ≡ put_link u (b * R + a) l → v ≡ put_pair t R a b l
unfolding put_pair
paired t R a b l p q = q ∙ ap (λ z. put_link z (b * R + a) l) p

-- ---- a row
pub row_none : (key : List ℕ) (R a : ℕ) (t : List ℕ) → t ≡ priced_row key R a (a - a) t
unfolding priced_row
row_none key R a t = let e : a - a ≡ 0 = omega arith in subst (λ n. t ≡ priced_row key R a n t) (sym e) refl

pub row_start : (key : List ℕ) (a : ℕ) (c : Cursor) → c.key ≡ key → Stands key (row_count key a c.count (a - a)) c
unfolding row_count
row_start key a c p =
    let e : a - a ≡ 0 = omega arith in
    record { key = p; count = subst (λ n. c.count ≡ row_count key a c.count n) (sym e) refl }

module _ (key : List ℕ) (R a b : ℕ) (le : a ≤ b) where
  one_more : suc (b - a) ≡ b + 1 - a
  one_more = omega arith

  back : a + (b - a) ≡ b
  back = omega arith

  pub row_moves : (count : ℕ) (d e : Cursor) → Stands key (row_count key a count (b - a)) d → Moved d (link_words d.key d.count (band_of a b)) e
      → Stands key (row_count key a count (b + 1 - a)) e
  unfolding row_count
  row_moves count d e s m = record {
    key = m.key ∙ s.key;
    count = m.count ∙ ap₂ (λ k n. n + link_words k n (band_of a b)) s.key s.count
        ∙ ap (λ x. row_count key a count (b - a) + link_words key (row_count key a count (b - a)) (band_of a x)) (sym back)
        ∙ ap (row_count key a count) one_more;
  }

  pub row_writes : (t t₀ t' : List ℕ) (count : ℕ) (d : Cursor) (l : Link) → count ≡ all_count key R a → Stands key (row_count key a count (b - a)) d → l ≡ drawn_link d.key d.count (band_of a b)
      → t ≡ priced_row key R a (b - a) t₀ → t' ≡ put_pair t R a b l → t' ≡ priced_row key R a (b + 1 - a) t₀
  unfolding priced_row pair_link
  row_writes t t₀ t' count d l e s p q r =
      let is : l ≡ pair_link key R a b = p ∙ ap₂ (λ k n. drawn_link k n (band_of a b)) s.key (s.count ∙ ap (λ n. row_count key a n (b - a)) e) in
      r ∙ ap₂ (λ u m. put_pair u R a b m) q is ∙ ap (λ x. put_pair (priced_row key R a (b - a) t₀) R a x (pair_link key R a x)) (sym back) ∙ ap (λ n. priced_row key R a n t₀) one_more

pub row_end : (key : List ℕ) (R a b : ℕ) (c d : Cursor) → b ≤ R → R ≤ b → c.count ≡ all_count key R a → Stands key (row_count key a c.count (b - a)) d → Stands key (all_count key R (a + 1)) d
unfolding all_count
row_end key R a b c d p q e s =
    let same : b ≡ R = omega arith in
    record { key = s.key; count = s.count ∙ ap₂ (λ n x. row_count key a n (x - a)) e same ∙ ap (all_count key R) (sym (add-one a)) }

pub row_done : (key : List ℕ) (R a b : ℕ) (t t₀ : List ℕ) → b ≤ R → R ≤ b → t ≡ priced_row key R a (b - a) t₀ → t ≡ priced_row key R a (R - a) t₀
row_done key R a b t t₀ p q e = let same : b ≡ R = omega arith in e ∙ ap (λ x. priced_row key R a (x - a) t₀) same

-- ---- all rows
pub all_none : (key : List ℕ) (R : ℕ) (t : List ℕ) → t ≡ priced_all key R 0 t
unfolding priced_all
all_none key R t = refl

pub all_start : (key : List ℕ) (R : ℕ) (c : Cursor) → c.key ≡ key → c.count ≡ 0 → Stands key (all_count key R 0) c
unfolding all_count
all_start key R c p q = record { key = p; count = q }

pub all_count_lem : (key : List ℕ) (R a : ℕ) (d : Cursor) → Stands key (all_count key R a) d → d.count ≡ all_count d.key R a
all_count_lem key R a d s = s.count ∙ ap (λ k. all_count k R a) (sym s.key)

pub all_moves : (key : List ℕ) (R a : ℕ) (d e : Cursor) → Stands key (all_count key R a) d → Stands d.key (all_count d.key R (a + 1)) e → Stands key (all_count key R (a + 1)) e
all_moves key R a d e s m = subst (λ k. Stands k (all_count k R (a + 1)) e) s.key m

pub all_writes : (key : List ℕ) (R a : ℕ) (t t₀ t' : List ℕ) (d : Cursor) → Stands key (all_count key R a) d → t ≡ priced_all key R a t₀ →
    t' ≡ priced_row d.key R a (R - a) t → t' ≡ priced_all key R (a + 1) t₀
unfolding priced_all
all_writes key R a t t₀ t' d s p q = q ∙ ap₂ (λ k u. priced_row k R a (R - a) u) s.key p ∙ ap (λ n. priced_all key R n t₀) (sym (add-one a))

pub all_done : (key : List ℕ) (R a : ℕ) (t t₀ : List ℕ) → a ≤ R → R ≤ a → t ≡ priced_all key R a t₀ → t ≡ priced_all key R R t₀
all_done key R a t t₀ p q e = let same : a ≡ R = omega arith in e ∙ ap (λ x. priced_all key R x t₀) same

pub plan_made : (seed regions n : ℕ) (t : List ℕ) (c : Cursor) {t' key : List ℕ} → n ≡ at_least_one regions → key ≡ derive seed links 0 → c.key ≡ key →
    t' ≡ priced_all c.key n n t → t' ≡ prices_of seed regions t
unfolding prices_of
plan_made seed regions n t c p q r h = h ∙ ap₂ (λ k m. priced_all k m m t) (r ∙ q) p

-- ---- reading
pub link_read : (t : List ℕ) (regions a b : ℕ) {n at next base rate : ℕ} → length t < 2 ^ 64 → n ≡ at_least_one regions → at ≡ min (2 * (a * n + b)) (2 ^ 64 - 1) → next ≡ min (at + 1) (2 ^ 64 - 1)
    → base ≡ get_or t at 0 → rate ≡ get_or t next 0 → link_of base rate ≡ link_at t regions a b
unfolding link_at link_in
link_read t regions a b {n} {at} {next} short p h k q r =
    ap₂ link_of
    (q ∙ read_at t short at (2 * (a * n + b)) h ∙ ap (λ m. get_or t (2 * (a * m + b)) 0) p)
    (r ∙ read_at t short next (2 * (a * n + b) + 1) (omega (arith, h, k)) ∙ ap (λ m. get_or t (2 * (a * m + b) + 1) 0) p)

pub cost_planned : (t : List ℕ) (regions a b latency bytes : ℕ) (l : Link) {w : ℕ} → l ≡ link_at t regions a b → w ≡ transmission_of bytes l.rate
    → ◌≡◌ {A = Cost} (record { base = l.base; transmission = record { ns = w } }) (cost_of true t regions a b latency bytes)
unfolding cost_of link_cost
cost_planned t regions a b latency bytes l p q = ap (λ w. record { base = l.base; transmission = record { ns = w } }) q ∙ ap (λ m. link_cost m bytes) p
