-- What a plan's table holds: the link of every pair of regions, whatever lay in the table before; and within which limits.
use Prim.Native.Nat.{ℕ, zero, suc, ◌+◌, ◌-◌, ◌*◌, ◌<◌, ◌≤◌, min, max}
use mathlib.Core.Path.{◌≡◌, refl, ap, ap₂, sym, ◌∙◌, subst}
use mathlib.Core.Logic.{◌⊎◌, inl, inr}
use mathlib.Core.Bool.{Bool, true, false, not, ◌&&◌}
use mathlib.Core.List.{List}
use native.Mathlib.Omega.{arith}
use native.Mathlib.Nat.{mod-lt, mul-le-mul_left, mul-le-mul_right, suc-mul, div-le_of_le-mul}
use borrow.Author.Tests.{le-leb}
use lib.Dec.{eqb, leb, T, ltb, ltb→lt, nltb→le}
use lib.ListN.{length, set, length-set}
use lib.Seq.{get_or-set_same, get_or-set_other}
use Rattle.math_time.specs.Seconds.{second, millisecond}
use Rattle.rand_draw.specs.Draw.{whole64_at, words64_at}
use Rattle.rand_draw.proofs.Words.{whole64_below}
use Rattle.link_geography.specs.declared.Link.{Link}
use Rattle.link_geography.specs.declared.Band.{Band}
use Rattle.link_geography.specs.Bytes.{derive, links}
use Rattle.link_geography.specs.Geography.{
  most_bytes,
  at_least_one,
  transmission_of,
  link_of,
  pick,
  band_of,
  drawn_link,
  pair_link,
  plan_link,
  link_width,
  link_in,
  put_link,
  put_pair,
  priced_row,
  priced_all,
  prices_of,
  link_at,
  link_admitted,
  region_of,
  pick_cost,
  link_cost,
  cost_of,
  plan_cost,
}

-- ---- one row of the table
pub length_put : (t : List ℕ) (i : ℕ) (l : Link) → length (put_link t i l) ≡ length t
unfolding put_link
length_put t i l = length-set (set t (2 * i) l.base.ns) (2 * i + 1) l.rate ∙ length-set t (2 * i) l.base.ns

pub put_same : (t : List ℕ) (i : ℕ) (l : Link) → link_width * i + 1 < length t → link_in (put_link t i l) i ≡ l
unfolding put_link link_in
put_same t i l h =
    let u : List ℕ = set t (2 * i) l.base.ns in
    let n : length u ≡ length t = length-set t (2 * i) l.base.ns in
    ap₂ link_of
    (get_or-set_other u (2 * i + 1) (2 * i) l.rate 0 (λ e. omega arith) ∙ get_or-set_same t (2 * i) l.base.ns 0 (omega arith))
    (get_or-set_same u (2 * i + 1) l.rate 0 (omega arith))

pub put_other : (t : List ℕ) (i j : ℕ) (l : Link) → (j ≡ i → ⊥) → link_in (put_link t i l) j ≡ link_in t j
unfolding put_link link_in
put_other t i j l h =
    let u : List ℕ = set t (2 * i) l.base.ns in
    ap₂ link_of
    (get_or-set_other u (2 * i + 1) (2 * j) l.rate 0 (λ e. odd j i e) ∙ get_or-set_other t (2 * i) (2 * j) l.base.ns 0 (λ e. h (half j i e)))
    (get_or-set_other u (2 * i + 1) (2 * j + 1) l.rate 0 (λ e. h (half j i (less j i e))) ∙ get_or-set_other t (2 * i) (2 * j + 1) l.base.ns 0 (λ e. odd i j (sym e)))
  where
    odd : (j i : ℕ) → 2 * j ≡ 2 * i + 1 → ⊥
    odd j i e = omega arith

    half : (j i : ℕ) → 2 * j ≡ 2 * i → j ≡ i
    half j i e = omega arith

    less : (j i : ℕ) → 2 * j + 1 ≡ 2 * i + 1 → 2 * j ≡ 2 * i
    less j i e = omega arith

-- ---- indices: a row of regions each
le_or_lt : (a b : ℕ) → (a ≤ b) ⊎ (b < a)
le_or_lt a b = go (ltb b a) (ltb→lt b a) (nltb→le b a)
  where
    go : (t : Bool) → (T t → b < a) → (T (not t) → a ≤ b) → (a ≤ b) ⊎ (b < a)
    go true h k = inr (h tt)
    go false h k = inl (k tt)

unique : (R x y a b : ℕ) → y < R → b < R → x * R + y ≡ a * R + b → (x ≡ a) × (y ≡ b)
unique R x y a b p q e = elim (le_or_lt x a) [
  | inl le ↦ elim (le_or_lt a x) [
    | inl ge ↦ let s : x ≡ a = omega arith in (s, let r : x * R ≡ a * R = ap (λ z. z * R) s in omega arith)
    | inr lt ↦ absurd (let k : suc x * R ≤ a * R = mul-le-mul_right R lt in let s = suc-mul x R in omega arith)
  ]
  | inr lt ↦ absurd (let k : suc a * R ≤ x * R = mul-le-mul_right R lt in let s = suc-mul a R in omega arith)
]

inside : (R a b : ℕ) (t : List ℕ) → a < R → b < R → link_width * (R * R) ≤ length t → link_width * (a * R + b) + 1 < length t
inside R a b t p q h =
    let k : suc a * R ≤ R * R = mul-le-mul_right R p in
    let s = suc-mul a R in
    omega arith

-- i is an index of the pair (x, y), x at most y
abbrev At : (R x y i : ℕ) → Type 0
At R x y i = (i ≡ x * R + y) ⊎ (i ≡ y * R + x)

-- of the pairs (a, b), a at most b, only (x, y) writes there
only : (R x y a b i : ℕ) → x ≤ y → y < R → a ≤ b → b < R → At R x y i → At R a b i → (a ≡ x) × (b ≡ y)
only R x y a b i p q r s (inl e) (inl f) = let u = unique R a b x y s q (sym f ∙ e) in (u.0, u.1)
only R x y a b i p q r s (inl e) (inr f) = let u = unique R b a x y (small a b R r s) q (sym f ∙ e) in (turn u.0 u.1, back u.0 u.1)
  where
    small : (a b R : ℕ) → a ≤ b → b < R → a < R
    small a b R h k = omega arith

    turn : b ≡ x → a ≡ y → a ≡ x
    turn h k = omega arith

    back : b ≡ x → a ≡ y → b ≡ y
    back h k = omega arith
only R x y a b i p q r s (inr e) (inl f) = let u = unique R a b y x s (small x y R p q) (sym f ∙ e) in (turn u.0 u.1, back u.0 u.1)
  where
    small : (a b R : ℕ) → a ≤ b → b < R → a < R
    small a b R h k = omega arith

    turn : a ≡ y → b ≡ x → a ≡ x
    turn h k = omega arith

    back : a ≡ y → b ≡ x → b ≡ y
    back h k = omega arith
only R x y a b i p q r s (inr e) (inr f) = let u = unique R b a y x (small a b R r s) (small x y R p q) (sym f ∙ e) in (u.1, u.0)
  where
    small : (a b R : ℕ) → a ≤ b → b < R → a < R
    small a b R h k = omega arith

-- ---- a pair
pub length_pair : (t : List ℕ) (R a b : ℕ) (l : Link) → length (put_pair t R a b l) ≡ length t
unfolding put_pair
length_pair t R a b l = length_put (put_link t (a * R + b) l) (b * R + a) l ∙ length_put t (a * R + b) l

pair_other : (t : List ℕ) (R a b i : ℕ) (l : Link) → (At R a b i → ⊥) → link_in (put_pair t R a b l) i ≡ link_in t i
unfolding put_pair
pair_other t R a b i l h = put_other (put_link t (a * R + b) l) (b * R + a) i l (λ e. h (inr e)) ∙ put_other t (a * R + b) i l (λ e. h (inl e))

below_too : (a b R : ℕ) → a ≤ b → b < R → a < R
below_too a b R h k = omega arith

-- the second write of the pair stands, and the first where it is another row
pair_last : (t : List ℕ) (R a b : ℕ) (l : Link) → a ≤ b → b < R → link_width * (R * R) ≤ length t → link_in (put_pair t R a b l) (b * R + a) ≡ l
unfolding put_pair
pair_last t R a b l p q h =
    let u = put_link t (a * R + b) l in
    put_same u (b * R + a) l (inside R b a u q (below_too a b R p q) (subst (λ n. link_width * (R * R) ≤ n) (sym (length_put t (a * R + b) l)) h))

pair_first : (t : List ℕ) (R a b : ℕ) (l : Link) → a < b → b < R → link_width * (R * R) ≤ length t → link_in (put_pair t R a b l) (a * R + b) ≡ l
unfolding put_pair
pair_first t R a b l p q h =
    let s : a < R = omega arith in
    put_other (put_link t (a * R + b) l) (b * R + a) (a * R + b) l (λ f. apart (unique R a b b a q s f).0) ∙ put_same t (a * R + b) l (inside R a b t s q h)
  where
    apart : a ≡ b → ⊥
    apart e = omega arith

pair_same : (t : List ℕ) (R a b i : ℕ) (l : Link) → a ≤ b → b < R → link_width * (R * R) ≤ length t → At R a b i → link_in (put_pair t R a b l) i ≡ l
pair_same t R a b i l p q h (inr e) = ap (link_in (put_pair t R a b l)) e ∙ pair_last t R a b l p q h
pair_same t R a b i l p q h (inl e) = elim (le_or_lt b a) [
  | inl ge ↦ let s : a ≡ b = omega arith in ap (link_in (put_pair t R a b l)) (e ∙ ap₂ (λ x y. x * R + y) s (sym s)) ∙ pair_last t R a b l p q h
  | inr lt ↦ ap (link_in (put_pair t R a b l)) e ∙ pair_first t R a b l lt q h
]

-- ---- a row, and all rows
pub length_row : (key : List ℕ) (R a k : ℕ) (t : List ℕ) → length (priced_row key R a k t) ≡ length t
unfolding priced_row
length_row key R a zero t = refl
length_row key R a (suc k) t = length_pair (priced_row key R a k t) R a (a + k) (pair_link key R a (a + k)) ∙ length_row key R a k t

pub length_all : (key : List ℕ) (R k : ℕ) (t : List ℕ) → length (priced_all key R k t) ≡ length t
unfolding priced_all
length_all key R zero t = refl
length_all key R (suc k) t = length_row key R k (R - k) (priced_all key R k t) ∙ length_all key R k t

module _ (key : List ℕ) (R x y i : ℕ) (p : x ≤ y) (q : y < R) (at : At R x y i) where
  row_other : (a k : ℕ) (t : List ℕ) → a + k ≤ R → (a ≡ x → ⊥) → link_in (priced_row key R a k t) i ≡ link_in t i
  unfolding priced_row
  row_other a zero t h n = refl
  row_other a (suc k) t h n =
      pair_other (priced_row key R a k t) R a (a + k) i (pair_link key R a (a + k)) (λ w. n (only R x y a (a + k) i p q (omega arith) (omega arith) at w).0)
      ∙ row_other a k t (omega arith) n

  row_own : (k : ℕ) (t : List ℕ) → x + k ≤ R → y < x + k → link_width * (R * R) ≤ length t → link_in (priced_row key R x k t) i ≡ pair_link key R x y
  unfolding priced_row
  row_own zero t h l room = absurd (omega arith)
  row_own (suc k) t h l room = elim (le_or_lt (x + k) y) [
    | inl le ↦
        let e : x + k ≡ y = omega arith in
        pair_same (priced_row key R x k t) R x (x + k) i (pair_link key R x (x + k)) (omega arith) (omega arith) (subst (λ n. link_width * (R * R) ≤ n) (sym (length_row key R x k t)) room)
        (subst (λ z. At R x z i) (sym e) at)
        ∙ ap (pair_link key R x) e
    | inr lt ↦
        pair_other (priced_row key R x k t) R x (x + k) i (pair_link key R x (x + k)) (λ w. apart (only R x y x (x + k) i p q (omega arith) (omega arith) at w).1 lt)
        ∙ row_own k t (omega arith) lt room
  ]
    where
      apart : x + k ≡ y → y < x + k → ⊥
      apart e f = omega arith

  all_own : (k : ℕ) (t : List ℕ) → k ≤ R → x < k → link_width * (R * R) ≤ length t → link_in (priced_all key R k t) i ≡ pair_link key R x y
  unfolding priced_all
  all_own zero t h l room = absurd (omega arith)
  all_own (suc k) t h l room = elim (le_or_lt k x) [
    | inl le ↦
        let e : k ≡ x = omega arith in
        let u = priced_all key R k t in
        subst (λ z. link_in (priced_row key R z (R - z) u) i ≡ pair_link key R x y) (sym e)
        (row_own (R - x) u (omega arith) (omega arith) (subst (λ n. link_width * (R * R) ≤ n) (sym (length_all key R k t)) room))
    | inr lt ↦ row_other k (R - k) (priced_all key R k t) (omega arith) (λ e. apart e lt) ∙ all_own k t (omega arith) lt room
  ]
    where
      apart : k ≡ x → x < k → ⊥
      apart e f = omega arith

-- ---- a plan's table, over any table with room for it
pub length_prices : (seed regions : ℕ) (t : List ℕ) → length (prices_of seed regions t) ≡ length t
unfolding prices_of
length_prices seed regions t = length_all (derive seed links 0) (at_least_one regions) (at_least_one regions) t

pub prices_are : (seed regions a b : ℕ) (t : List ℕ) → a < at_least_one regions → b < at_least_one regions → link_width * (at_least_one regions * at_least_one regions) ≤ length t
    → link_at (prices_of seed regions t) regions a b ≡ plan_link seed regions a b
unfolding prices_of link_at plan_link
prices_are seed regions a b t p q room = elim (le_or_lt a b) [
  | inl le ↦
      let x : a ≡ min a b = omega arith in
      let y : b ≡ max a b = omega arith in
      all_own key R a b (a * R + b) le q (inl refl) R t (omega arith) p room ∙ ap₂ (pair_link key R) x y
  | inr lt ↦
      let x : b ≡ min a b = omega arith in
      let y : a ≡ max a b = omega arith in
      all_own key R b a (a * R + b) (omega arith) p (inr refl) R t (omega arith) q room ∙ ap₂ (pair_link key R) x y
]
  where
    key : List ℕ
    key = derive seed links 0

    R : ℕ
    R = at_least_one regions

-- ---- within which limits
-- at most 160 ms, and at least 100,000,000 bytes a second
pub drawn_admitted : (key : List ℕ) (count a b : ℕ) → link_admitted (drawn_link key count (band_of a b)) ≡ true
unfolding link_admitted drawn_link band_of
drawn_admitted key count a b = go (eqb a b) (band_of a b) refl
  where
    both : (x y : ℕ) → x ≤ 160 * millisecond → 100000000 ≤ y → (leb x (160 * millisecond) && leb 100000000 y) ≡ true
    both x y h k = rw (le-leb x (160 * millisecond) h, le-leb 100000000 y k)

    go : (t : Bool) → (s : Band) → s ≡ pick t (record { base = 1; bases = 10; rate = 1000000000; rates = 9000000001 }) (record { base = 40; bases = 121; rate = 100000000; rates = 900000001 })
        → link_admitted (drawn_link key count s) ≡ true
    go true s e =
        let h = whole64_below key count 10 (omega arith) (omega arith) in
        subst (λ z. link_admitted (drawn_link key count z) ≡ true) (sym e)
        (both ((1 + whole64_at key count 10) * millisecond) (1000000000 + whole64_at key (count + words64_at key count 10) 9000000001) (omega arith) (omega arith))
    go false s e =
        let h = whole64_below key count 121 (omega arith) (omega arith) in
        subst (λ z. link_admitted (drawn_link key count z) ≡ true) (sym e)
        (both ((40 + whole64_at key count 121) * millisecond) (100000000 + whole64_at key (count + words64_at key count 121) 900000001) (omega arith) (omega arith))

pub plan_admitted : (seed regions a b : ℕ) → link_admitted (plan_link seed regions a b) ≡ true
unfolding plan_link pair_link
plan_admitted seed regions a b = drawn_admitted _ _ (min a b) (max a b)

-- the longest time on the wire of such a link
pub transmission_most : (bytes rate : ℕ) → bytes ≤ most_bytes → 100000000 ≤ rate → transmission_of bytes rate ≤ 655360
unfolding transmission_of at_least_one
transmission_most bytes rate h k =
    let e : max 1 rate ≡ rate = omega arith in
    let m : 655360 * 100000000 ≤ 655360 * rate = mul-le-mul_left 655360 k in
    div-le_of_le-mul (max 1 rate) {m = bytes * second} {n = 655360} (subst (λ z. bytes * second ≤ z * 655360) (sym e) (omega arith))

-- ---- what a delivery costs
pub region_below : (seed regions till : ℕ) → region_of seed regions till < at_least_one regions
unfolding region_of at_least_one
region_below seed regions till = mod-lt _ (omega arith)

-- by a plan's table, as by the plan
pub cost_by_plan : (planned : Bool) (seed regions from to latency bytes : ℕ) (t : List ℕ) → link_width * (at_least_one regions * at_least_one regions) ≤ length t
    → cost_of planned (prices_of seed regions t) regions (region_of seed regions from) (region_of seed regions to) latency bytes ≡ plan_cost planned seed regions from to latency bytes
unfolding cost_of plan_cost
cost_by_plan planned seed regions from to latency bytes t room =
    ap (λ l. pick_cost planned (link_cost l bytes) (record { base = record { ns = latency }; transmission = record { ns = 0 } }))
    (prices_are seed regions (region_of seed regions from) (region_of seed regions to) t (region_below seed regions from) (region_below seed regions to) room)
