-- What an admitted fraction is, and what holds of the delay for every base and fraction that an opening admits.
use mathlib.Core.Path.{◌≡◌, refl, sym, ap, ◌∙◌, subst}
use mathlib.Core.Logic.{◌⊎◌, inl, inr}
use mathlib.Core.Bool.{Bool, true, false, cond, ◌||◌, true≢false}
use Prim.Native.Nat.{ℕ, zero, suc, ◌+◌, ◌-◌, ◌*◌, ◌/◌, ◌^◌, ◌≤◌, ◌<◌, zero-le, max}
use native.Mathlib.Nat.{mul-pos, zero-mul, mul-zero, le_of_eq, le_trans, zero-lt-suc, lt_irrefl, mul-le-mul_right, mul-le-mul_left, mul_comm, lt_of_mul-lt-mul_right}
use native.Mathlib.Omega.{arith}
use lib.IntN.{ℤ, pos, negsuc}
use lib.Dec.{T, eqb, eqb→eq, leb→le, lit<}
use lib.Pow.{pow_pos}
use borrow.Author.Tests.{le-ltb}
use lib.Ieee.{Float, nan, inf, fin, binary64, up, down, round, add, mul, neg, lt, le, eq, unlike, div, of_int}
use lib.Ieee.Exact.{HasValue, round_exact}
use lib.Ieee.Fits.{up_pos, down_pos, and_l, and_r}
use lib.Ieee.Positive.{num, den, positive, den_pos, own_value, between, le→cross}
use Rattle.math_float.specs.Float.{zero64, one64}
use Rattle.math_time.specs.Seconds.{whole, seconds, nanos, InRange}
use Rattle.rand_draw.specs.Real.{real_of}
use Rattle.math_bounds.proofs.Near.{Q, mul_is}
use Rattle.math_bounds.proofs.Chain.{Val, secs_value}
use Rattle.math_bounds.proofs.Order.{Ordered, lt_value}
use Rattle.math_bounds.proofs.Compose as C
use Rattle.math_bounds.proofs.Delay as Steps
use Rattle.math_bounds.proofs.First.{jitter_first, spike_below}
use Rattle.link_latency.specs.Latency.{jitter_range, jitters, jitter_of, floored, delay_of, longest_delay}
use Rattle.link_latency.specs.Admitted.{Admitted, latency_admitted, fraction_admitted, longest_base}

or_split : (a b : Bool) → T (a || b) → T a ⊎ T b
or_split true b t = inl tt
or_split false b t = inr t

-- 2 ^ -20
abbrev least : Float
least = fin false 1 (negsuc 19)

-- a zero of either sign, or from 2 ^ -20 to 1
abbrev Admits : Float → Type 0
Admits f = ((s : Bool) × (e : ℤ) × (f ≡ fin s 0 e)) ⊎ (HasValue f false (num f) (den f) × (num f ≤ den f) × (den f ≤ num f * 2 ^ 20))

zero_is : (f : Float) → T (eq f zero64) → Admits f
unfolding eq
zero_is nan t = elim t [ ]
zero_is (inf s) t = elim t [ ]
zero_is (fin s m e) t = inl (s, e, ap (λ (k : ℕ). fin s k e) (first m (up e) (down e) (up_pos e) (eqb→eq (m * up e * 1) (0 * 1 * down e) (and_l (eqb (m * up e * 1) (0 * 1 * down e)) _ t))))
  where
    first : (m u d : ℕ) → 0 < u → m * u * 1 ≡ 0 * 1 * d → m ≡ 0
    first zero u d h k = refl
    first (suc m) u d h k = absurd (lt_irrefl 0 (subst (λ (z : ℕ). 0 < z) (tidy (suc m * u) (0 * 1 * d) k (zero-mul d)) (mul-pos (zero-lt-suc m) h)))
      where
        tidy : (x y : ℕ) → x * 1 ≡ y → y ≡ 0 → x ≡ 0
        tidy x y a b = omega arith

pub admits : (f : Float) → T (fraction_admitted f) → Admits f
unfolding fraction_admitted
admits f t = elim (or_split (eq f zero64) _ t) [
  | inl z ↦ zero_is f z
  | inr r ↦
      let a = and_l (le least f) (le f one64) r in
      let b = and_r (le least f) (le f one64) r in
      let p : T (positive f) = between least f one64 tt tt a b in
      inr (own_value f p, upper (num f) (den f) (le→cross f one64 p tt b), lower (num f) (den f) (le→cross least f tt p a))
]
  where
    upper : (x y : ℕ) → x * 1 ≤ 1 * 1 * y → x ≤ y
    upper x y h = omega arith

    lower : (x y : ℕ) → 1 * 1 * y ≤ x * 2 ^ 20 → y ≤ x * 2 ^ 20
    lower x y h = omega arith

-- ---- at a zero of either sign, or of a base of 0, nothing is drawn
not_below : (x : Float) (t : Bool) (c : ℕ) → 0 < c → HasValue x t 0 c → lt zero64 x ≡ false
unfolding lt
not_below nan t c C h = absurd h
not_below (inf s) t c C h = absurd h
not_below (fin true m e) t c C h = refl
not_below (fin false m e) t c C h = le-ltb (0 * 1 * down e) (m * up e * 1) (go (m * up e) (down e) h.1)
  where
    go : (x d : ℕ) → x * c ≡ 0 * d → x * 1 ≤ 0 * 1 * d
    go zero d k = le_trans (le_of_eq (zero-mul 1)) zero-le
    go (suc x) d k = absurd (lt_irrefl 0 (subst (λ (z : ℕ). 0 < z) (k ∙ zero-mul d) (mul-pos (zero-lt-suc x) C)))

product : (S : Float) (s : ℕ) (t : Bool) (e : ℤ) → Val S s → (c : ℕ) × (0 < c) × HasValue (mul binary64 S (fin t 0 e)) (unlike false t) 0 c
unfolding mul
product nan s t e v = absurd v
product (inf r) s t e v = absurd v
product (fin true m d) s t e v = absurd (true≢false v.0)
product (fin false m d) s t e v = (
  down d * down e,
  mul-pos (down_pos d) (down_pos e),
  subst (λ (z : ℕ). HasValue (round binary64 (unlike false t) z (down d * down e)) (unlike false t) 0 (down d * down e)) (sym (ap (λ (z : ℕ). m * up d * z) (zero-mul (up e)) ∙ mul-zero (m * up d)))
      (round_exact binary64 (unlike false t) 0 (down d * down e) 0 0 (mul-pos (down_pos d) (down_pos e)) (lit< tt) (lit< tt) (sym (zero-mul (down d * down e)))),
)

pub none_drawn : (S : Float) (s : ℕ) (t : Bool) (e : ℤ) → Val S s → jitters S (fin t 0 e) ≡ false
unfolding jitters jitter_range
none_drawn S s t e v = let p = product S s t e v in not_below (mul binary64 S (fin t 0 e)) (unlike false t) p.0 p.1 p.2

none : (S : Float) (s : ℕ) (t : Bool) (e : ℤ) (d : ℕ) → Val S s → jitter_of S (fin t 0 e) d ≡ zero64
unfolding jitter_of
none S s t e d v = rw (none_drawn S s t e v)

same : (S : Float) (s : ℕ) (t : Bool) (e : ℤ) (d : ℕ) → Val S s → jitter_of S (fin t 0 e) d ≡ jitter_of S zero64 d
same S s t e d v = none S s t e d v ∙ sym (none S s false (pos 0) d v)

zero_value : (e : ℤ) → HasValue zero64 false (0 * up e) (down e)
zero_value e = (refl, go (up e) (down e))
  where
    go : (u d : ℕ) → 0 * 1 * d ≡ 0 * u * 1
    go u d = omega arith

zero_small : (e : ℤ) → 0 * up e ≤ down e
zero_small e = le_trans (le_of_eq (zero-mul (up e))) zero-le

-- ---- the sum of seconds and jitter, for a fraction F / D that is at most 1
module _ (n : ℕ) (f : Float) (F D d : ℕ) (B : n ≤ longest_base) (P : 0 < D) (L : F ≤ D) (v : HasValue f false F D) (W : d < 2 ^ 64) where
  total : (t : ℕ) × Steps.Outcome (add binary64 (seconds n) (jitter_of (seconds n) f d)) t × Steps.Total n f F D d B P L v W t
  unfolding jitter_of jitters jitter_range
  total = go (lt zero64 (Steps.J n f F D d B P L v W)) (lt_value zero64 (Steps.J n f F D d B P L v W) 0 (Steps.j n f F D d B P L v W) (refl, refl) (Steps.jv n f F D d B P L v W).1)
    where
      go : (b : Bool) → Ordered b 0 (Steps.j n f F D d B P L v W)
          → (t : ℕ) × Steps.Outcome (add binary64 (seconds n) (cond b (real_of (neg (Steps.J n f F D d B P L v W)) (Steps.J n f F D d B P L v W) d) zero64)) t × Steps.Total n f F D d B P L v W t
      go true h = Steps.drawn n f F D d B P L v W
      go false h = Steps.none n f F D d B P L v W h

  in_range_of : InRange (floored (add binary64 (seconds n) (jitter_of (seconds n) f d)))
  unfolding floored
  in_range_of = let t = total in Steps.floor_in_range n f F D d B P L v W (add binary64 (seconds n) (jitter_of (seconds n) f d)) t.0 t.1 t.2

  near_of : C.Within1 (delay_of n f d) (2 ^ 52 * D) (Steps.truth n f F D d B P L v W)
  unfolding delay_of floored
  near_of = let t = total in Steps.near_truth n f F D d B P L v W (add binary64 (seconds n) (jitter_of (seconds n) f d)) t.0 t.1 t.2

-- ---- for every base and fraction that an opening admits
abbrev pub sum_of : ℕ → Float → ℕ → Float
sum_of n f d = floored (add binary64 (seconds n) (jitter_of (seconds n) f d))

-- the exact delay of document 02's M-106, over the denominator 2 ^ 52 * den f: the greater of 1 ms and n + n * f * (2 * k - 2 ^ 52) / 2 ^ 52 nanoseconds
unfoldable pub truth : ℕ → Float → ℕ → ℕ
truth n f k = max (1000000 * (2 ^ 52 * den f)) (n * (2 ^ 52 * den f) + n * (2 * k * num f) - n * (num f * 2 ^ 52))

-- r nanoseconds lie less than 1 ns from it
unfoldable pub CloseTo : ℕ → Float → ℕ → ℕ → Type 0
CloseTo n f k r = (r * (2 ^ 52 * den f) < truth n f k + 2 ^ 52 * den f) × (truth n f k < r * (2 ^ 52 * den f) + 2 ^ 52 * den f)

module _ (n : ℕ) (f : Float) (d : ℕ) (B : n ≤ longest_base) (A : T (fraction_admitted f)) (W : d < 2 ^ 64) where
  -- the sum is in the range that `nanos` asks for
  pub in_range : InRange (sum_of n f d)
  in_range = go (admits f A)
    where
      go : Admits f → InRange (sum_of n f d)
      go (inl z) =
          let s = secs_value n B in
          subst (λ (x : Float). InRange (floored (add binary64 (seconds n) x))) (sym (ap (λ (g : Float). jitter_of (seconds n) g d) z.2 ∙ same (seconds n) s.0 z.0 z.1 d s.1))
          (in_range_of n zero64 (0 * up z.1) (down z.1) d B (down_pos z.1) (zero_small z.1) (zero_value z.1) W)
      go (inr v) = in_range_of n f (num f) (den f) d B (den_pos f) v.1 v.0 W

  delay_same : (s : Bool) (e : ℤ) → delay_of n (fin s 0 e) d ≡ delay_of n zero64 d
  unfolding delay_of
  delay_same s e = let v = secs_value n B in ap (λ (x : Float). nanos (floored (add binary64 (seconds n) x))) (same (seconds n) v.0 s e d v.1)

  -- M-106
  pub true_delay : CloseTo n f (d / 2 ^ 12) (delay_of n f d)
  unfolding CloseTo truth
  true_delay = go (admits f A)
    where
      go : Admits f → C.Within1 (delay_of n f d) (2 ^ 52 * den f) (truth n f (d / 2 ^ 12))
      go (inl z) = subst (λ (g : Float). C.Within1 (delay_of n g d) (2 ^ 52 * den g) (truth n g (d / 2 ^ 12))) (sym z.2)
          (subst (λ (l : ℕ). C.Within1 l (2 ^ 52 * down z.1) (truth n (fin z.0 0 z.1) (d / 2 ^ 12))) (sym (delay_same z.0 z.1))
          (near_of n zero64 (0 * up z.1) (down z.1) d B (down_pos z.1) (zero_small z.1) (zero_value z.1) W))
      go (inr v) = near_of n f (num f) (den f) d B (den_pos f) v.1 v.0 W

  -- so the delay is at most twice the longest base
  small : num f ≤ den f
  small = go (admits f A)
    where
      go : Admits f → num f ≤ den f
      go (inl z) = subst (λ (g : Float). num g ≤ den g) (sym z.2) (zero_small z.1)
      go (inr v) = v.1

  pub delay_most : delay_of n f d ≤ longest_delay
  unfolding CloseTo truth
  delay_most =
      let u = 2 ^ 52 * den f in
      let k = d / 2 ^ 12 in
      let k_le : k ≤ 2 ^ 52 = omega arith in
      let b : n * (2 * k * num f) ≤ n * (2 * 2 ^ 52 * num f) = mul-le-mul_left n (mul-le-mul_right (num f) (twice k (2 ^ 52) k_le)) in
      let c : n * (num f * 2 ^ 52) ≤ n * u = mul-le-mul_left n (le_trans (mul-le-mul_right (2 ^ 52) small) (le_of_eq (mul_comm (den f) (2 ^ 52)))) in
      let e : n * u ≤ longest_base * u = mul-le-mul_right u B in
      last (delay_of n f d) (lt_of_mul-lt-mul_right u (go (delay_of n f d * u) (n * u) (n * (2 * k * num f)) (n * (num f * 2 ^ 52)) u (le_trans b (le_of_eq (turn n (num f)))) c e true_delay.0))
    where
      twice : (x y : ℕ) → x ≤ y → 2 * x ≤ 2 * y
      twice x y h = omega arith

      turn : (n f : ℕ) → n * (2 * 2 ^ 52 * f) ≡ 2 * (n * (f * 2 ^ 52))
      turn n f = omega arith

      go : (r a b c u : ℕ) → b ≤ 2 * c → c ≤ a → a ≤ longest_base * u → r < max (1000000 * u) (a + b - c) + u → r < (longest_delay + 1) * u
      go r a b c u p q s t = omega arith

      last : (r : ℕ) → r < longest_delay + 1 → r ≤ longest_delay
      last r h = omega arith

-- ---- document 01's claim: inside the limits the first draw of a real range is below its high end
-- of a base of 0 nothing is drawn
seconds_none : seconds 0 ≡ zero64
unfolding seconds add div of_int
seconds_none = refl

base_none : (f : Float) (F D : ℕ) → 0 < D → HasValue f false F D → jitters (seconds 0) f ≡ false
unfolding jitters jitter_range
base_none f F D P v =
    let e : mul binary64 (seconds 0) f ≡ round binary64 false (0 * F) (1 * D) = ap (λ (s : Float). mul binary64 s f) seconds_none ∙ mul_is zero64 f 0 1 F D (pow_pos 0) P (refl, refl) v in
    let C : 0 < 1 * D = mul-pos (pow_pos 0) P in
    let r : HasValue (round binary64 false (0 * F) (1 * D)) false 0 (1 * D) =
    subst (λ (z : ℕ). HasValue (round binary64 false (0 * F) (1 * D)) false z (1 * D)) (zero-mul F) (round_exact binary64 false (0 * F) (1 * D) 0 0 C (lit< tt) (lit< tt) (tidy F D Q)) in
    not_below (mul binary64 (seconds 0) f) false (1 * D) C (subst (λ (z : Float). HasValue z false 0 (1 * D)) (sym e) r)
  where
    tidy : (f d q : ℕ) → 0 * f * q ≡ 0 * 2 ^ 0 * (1 * d)
    tidy f d q = omega arith

-- −j..j, for every base and fraction that an opening admits
pub jitter_below_high : (n : ℕ) (f : Float) (d : ℕ) → n ≤ longest_base → T (fraction_admitted f) → d < 2 ^ 64 → jitters (seconds n) f ≡ true
    → T (lt (real_of (neg (jitter_range (seconds n) f)) (jitter_range (seconds n) f) d) (jitter_range (seconds n) f))
unfolding jitter_range
jitter_below_high n f d B A W J = go (admits f A)
  where
    clash : (b : Bool) → b ≡ true → b ≡ false → ⊥
    clash b p q = true≢false (sym p ∙ q)

    base : (n : ℕ) → jitters (seconds n) f ≡ true → HasValue f false (num f) (den f) → 1 ≤ n
    base zero h v = absurd (clash (jitters (seconds 0) f) h (base_none f (num f) (den f) (den_pos f) v))
    base (suc n) h v = zero-lt-suc n

    go : Admits f → T (lt (real_of (neg (mul binary64 (seconds n) f)) (mul binary64 (seconds n) f) d) (mul binary64 (seconds n) f))
    go (inl z) =
        let s = secs_value n B in
        absurd (clash (jitters (seconds n) f) J (ap (jitters (seconds n)) z.2 ∙ none_drawn (seconds n) s.0 z.0 z.1 s.1))
    go (inr v) = jitter_first n f (num f) (den f) d (base n J v.0) B (den_pos f) v.1 v.2 v.0 W

-- 10..50
pub spike_below_high : (d : ℕ) → d < 2 ^ 64 → T (lt (real_of (whole 10) (whole 50) d) (whole 50))
spike_below_high d W = spike_below d W

-- ---- question 3's tests give what a latency asks for
pub admitted : (n : ℕ) (f : Float) {x y : Bool} → x ≡ latency_admitted n → x ≡ true → y ≡ fraction_admitted f → y ≡ true → Admitted n f
unfolding latency_admitted
admitted n f p h q k = record { base = leb→le n longest_base (subst T (sym (sym p ∙ h)) tt); fraction = subst T (sym (sym q ∙ k)) tt }
