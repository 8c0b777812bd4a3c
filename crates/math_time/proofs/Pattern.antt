-- The bit pattern of an x from 0.001 up and below 2 ^ 26: its exponent's field is j + 1, its digits under a leading one are q, and x is q * 2 ^ j / 2 ^ 1074.
use mathlib.Core.Path.{◌≡◌, refl, sym, ap, ◌∙◌, subst}
use mathlib.Core.Bool.{Bool, true, false, not, ◌||◌, cond}
use Prim.Native.Nat.{ℕ, zero, suc, ◌+◌, ◌-◌, ◌*◌, ◌/◌, ◌%◌, ◌^◌, ◌≤◌, ◌<◌}
use native.Mathlib.Nat.{
  le_trans,
  le_of_eq,
  lt_of_lt_of_le,
  lt_of_le_of_lt,
  lt_of_not-le,
  lt_irrefl,
  mul_comm,
  mul_assoc,
  mul_right_comm,
  mul_left_comm,
  mul-le-mul_right,
  mul-lt-mul_of_pos_right,
  le_of_mul-le-mul_right,
  lt_of_mul-lt-mul_right,
  le-add_right,
  mul-one,
  one-mul,
  mod-lt,
  mod-eq_of_lt,
  eq_of_mul-eq-mul_right,
}
use native.Mathlib.Omega.{arith}
use lib.IntN.{pos}
use lib.Dec.{T, leb, eqb, ltb→lt, nleb→lt, lit≤}
use lib.Pow.{pow-add, pow_pos, pow_mono, shl_lt}
use lib.Bits.{bit_and, bit_or, and_mask, or_shifted_r}
use lib.Ieee.{Float, nan, inf, fin, binary64, up, down, odd, fits, is_nan, of_fields, of_bits, to_bits, lt, eq, le}
use lib.Ieee.Bits.{of_bits-to_bits}
use lib.Ieee.Exact.{HasValue, odd_sign}
use lib.Ieee.Nearest.{closest_same}
use lib.Ieee.Positive.{num, den, positive, den_pos, value→cross, between, le→cross}
use Rattle.math_time.specs.Seconds.{milli, second, nanos, nearest_even}

abbrev pub top26 : Float
top26 = fin false 1 (pos 26)

no : {b : Bool} → b ≡ false → T (not b)
no h = subst (λ (a : Bool). T (not a)) (sym h) tt

or_l : (a b : Bool) → T a → T (a || b)
or_l true b t = tt
or_l false b t = absurd t

lt→le : (x y : Float) → T (lt x y) → T (le x y)
unfolding le
lt→le x y h = or_l (lt x y) (eq x y) h

-- ---- the range, as a fraction
tidy_lt : (n p d : ℕ) → n * 1 < 1 * p * d → n < p * d
tidy_lt n p d h = subst (λ (k : ℕ). n < k * d) (one-mul p) (subst (λ (k : ℕ). k < 1 * p * d) (mul-one n) h)

under_pow : (x : Float) (w : ℕ) → T (positive x) → T (lt x (fin false 1 (pos w))) → num x < 2 ^ w * den x
unfolding lt
under_pow nan w p h = absurd p
under_pow (inf s) w p h = absurd p
under_pow (fin true m e) w p h = absurd p
under_pow (fin false m e) w p h = tidy_lt (m * up e) (2 ^ w) (down e) (ltb→lt (m * up e * 1) (1 * 2 ^ w * down e) h)

abbrev pub Within : Float → Type 0
Within x = T (positive x) × (den x ≤ num x * 2 ^ 10) × (num x < 2 ^ 26 * den x)

pub within : (x : Float) → T (le milli x) → T (lt x top26) → Within x
within x a b =
    let p : T (positive x) = between milli x top26 tt tt a (lt→le x top26 b) in
    (p, tidy (den x) (num x) (le→cross milli x tt p a), under_pow x 26 p b)
  where
    tidy : (d n : ℕ) → 1152921504606847 * 1 * d ≤ n * 2 ^ 60 → d ≤ n * 2 ^ 10
    tidy d n h = omega arith

-- ---- in units of 2 ^ -1074: n / d is a / l
module _ (n d a l : ℕ) (D : 0 < d) (v : n * l ≡ a * d) where
  units_ge : (p : ℕ) → d ≤ n * p → l ≤ a * p
  units_ge p h =
      le_of_mul-le-mul_right
      (le_trans (le_of_eq (mul_comm l d))
      (le_trans (mul-le-mul_right l h)
      (le_of_eq (mul_right_comm n p l ∙ ap (λ (z : ℕ). z * p) v ∙ mul_right_comm a d p)))) D

  units_lt : (p : ℕ) → 0 < l → n < p * d → a < p * l
  units_lt p L h = lt_of_mul-lt-mul_right d (lt_of_le_of_lt (le_of_eq (sym v)) (lt_of_lt_of_le (mul-lt-mul_of_pos_right h L) (le_of_eq (mul_right_comm p d l))))

-- ---- the fields
of_bits_is : (b : ℕ) → of_bits binary64 b ≡ of_fields binary64 (leb (2 ^ 63) b) (b % 2 ^ 63 / 2 ^ 52) (b % 2 ^ 52)
unfolding of_bits
of_bits_is b = refl

sign_of : (x : Float) (s : Bool) (a c : ℕ) → T (positive x) → HasValue x s a c → s ≡ false
sign_of nan s a c p h = absurd p
sign_of (inf t) s a c p h = absurd p
sign_of (fin true m e) s a c p h = absurd p
sign_of (fin false m e) s a c p h = sym h.0

clear : (v : Float) (s : Bool) (a c : ℕ) → T (positive v) → HasValue v s a c → HasValue v false a c
clear v s a c p h = subst (λ (k : Bool). HasValue v k a c) (sign_of v s a c p h) h

abbrev Read : Bool → ℕ → ℕ → Float → Type 0
Read s x t v = (j : ℕ) × (x ≡ suc j) × (s ≡ false) × HasValue v false ((2 ^ 52 + t) * 2 ^ j) (2 ^ 1074)

short : (t : ℕ) → t < 2 ^ 52 → 2 ^ 1074 ≤ t * 2 ^ 0 * 2 ^ 10 → ⊥
short t h k =
    let l : 52 + 10 ≤ 1074 = lit≤ tt in
    lt_irrefl (2 ^ 1074) (lt_of_le_of_lt k (lt_of_lt_of_le (shl_lt 52 10 (subst (λ (z : ℕ). z < 2 ^ 52) (sym (mul-one t)) h)) (pow_mono l)))

at_top : (a b s : Bool) (v : Float) → T (positive (cond a (cond b (inf s) nan) v)) → T (not a)
at_top true true s v p = absurd p
at_top true false s v p = absurd p
at_top false b s v p = tt

past_top : (a : Bool) (u v : Float) → T (not a) → cond a u v ≡ v
past_top true u v n = absurd n
past_top false u v n = refl

read : (s : Bool) (x t : ℕ) → t < 2 ^ 52 → T (positive (of_fields binary64 s x t)) → den (of_fields binary64 s x t) ≤ num (of_fields binary64 s x t) * 2 ^ 10 → Read s x t (of_fields binary64 s x t)
unfolding of_fields
read s zero t h p g =
    let v = odd 53 s t 0 1074 in
    absurd (short t h (units_ge (num v) (den v) (t * 2 ^ 0) (2 ^ 1074) (den_pos v) (value→cross v (t * 2 ^ 0) (2 ^ 1074) (clear v s (t * 2 ^ 0) (2 ^ 1074) p (odd_sign 53 s t 0 1074))) (2 ^ 10) g))
read s (suc j) t h p g =
    let v = odd 53 s (2 ^ 52 + t) j 1074 in
    let u = cond (eqb t 0) (inf s) nan in
    let is : cond (eqb (suc j) 2047) u v ≡ v = past_top (eqb (suc j) 2047) u v (at_top (eqb (suc j) 2047) (eqb t 0) s v p) in
    let q : T (positive v) = subst (λ (k : Float). T (positive k)) is p in (
      j,
      refl,
      sign_of v s ((2 ^ 52 + t) * 2 ^ j) (2 ^ 1074) q (odd_sign 53 s (2 ^ 52 + t) j 1074),
      subst (λ (k : Float). HasValue k false ((2 ^ 52 + t) * 2 ^ j) (2 ^ 1074)) (sym is) (clear v s ((2 ^ 52 + t) * 2 ^ j) (2 ^ 1074) q (odd_sign 53 s (2 ^ 52 + t) j 1074)),
    )

pow_lt_back : (i p : ℕ) → 2 ^ i < 2 ^ p → i < p
pow_lt_back i p h = lt_of_not-le (λ (g : p ≤ i). lt_irrefl (2 ^ i) (lt_of_lt_of_le h (pow_mono g)))

with_lead : (t : ℕ) → t < 2 ^ 52 → 2 ^ 52 + t < 2 ^ 53
with_lead t h = omega arith

lower : (j : ℕ) → 1074 < 53 + j + 10 → 1012 ≤ j
lower j h = omega arith

upper : (j : ℕ) → 52 + j < 1100 → j < 1048
upper j h = omega arith

abbrev Shape : ℕ → Float → Type 0
Shape b x = (j : ℕ) × (b / 2 ^ 52 ≡ suc j) × (1012 ≤ j) × (j < 1048) × (num x * 2 ^ 1074 ≡ (2 ^ 52 + b % 2 ^ 52) * 2 ^ j * den x)

shape_of : (b : ℕ) → Within (of_bits binary64 b) → Shape b (of_bits binary64 b)
shape_of b i =
    let x = of_bits binary64 b in
    let s = leb (2 ^ 63) b in
    let t = b % 2 ^ 52 in
    let q = 2 ^ 52 + t in
    let T52 : t < 2 ^ 52 = mod-lt b (pow_pos 52) in
    let r : Read s (b % 2 ^ 63 / 2 ^ 52) t x =
    subst (λ (k : Float). Read s (b % 2 ^ 63 / 2 ^ 52) t k) (sym (of_bits_is b))
    (read s (b % 2 ^ 63 / 2 ^ 52) t T52 (subst (λ (k : Float). T (positive k)) (of_bits_is b) i.0) (subst (λ (k : Float). den k ≤ num k * 2 ^ 10) (of_bits_is b) i.1)) in
    let j = r.0 in
    let small : b < 2 ^ 63 = nleb→lt (2 ^ 63) b (no r.2) in
    let v : num x * 2 ^ 1074 ≡ q * 2 ^ j * den x = value→cross x (q * 2 ^ j) (2 ^ 1074) r.3 in
    let lo : 2 ^ 1074 ≤ q * 2 ^ j * 2 ^ 10 = units_ge (num x) (den x) (q * 2 ^ j) (2 ^ 1074) (den_pos x) v (2 ^ 10) i.1 in
    let hi : q * 2 ^ j < 2 ^ 26 * 2 ^ 1074 = units_lt (num x) (den x) (q * 2 ^ j) (2 ^ 1074) (den_pos x) v (2 ^ 26) (pow_pos 1074) i.2 in (
      j,
      ap (λ (k : ℕ). k / 2 ^ 52) (sym (mod-eq_of_lt small)) ∙ r.1,
      lower j (pow_lt_back 1074 (53 + j + 10) (lt_of_le_of_lt lo (shl_lt (53 + j) 10 (shl_lt 53 j (with_lead t T52))))),
      upper j (pow_lt_back (52 + j) 1100 (lt_of_le_of_lt (le_trans (le_of_eq (pow-add 2 52 j)) (mul-le-mul_right (2 ^ j) (le-add_right (2 ^ 52) t))) hi)),
      v,
    )

digits_are : (b : ℕ) → bit_or (bit_and b (2 ^ 52 - 1)) (2 ^ 52) ≡ 2 ^ 52 + b % 2 ^ 52
digits_are b = ap (λ (k : ℕ). bit_or k (2 ^ 52)) (and_mask b 52) ∙ or_shifted_r 1 52 (b % 2 ^ 52) (mod-lt b (pow_pos 52))

no_nan : (y : Float) → T (positive y) → T (not (is_nan y))
unfolding is_nan
no_nan nan p = absurd p
no_nan (inf s) p = tt
no_nan (fin s m e) p = tt

-- n * l ≡ q * 2 ^ j * d with l = 2 ^ (j + k): the fraction n * g / d is q * g / 2 ^ k
rescaled : (n d q g j k : ℕ) → 0 < d → n * 2 ^ (j + k) ≡ q * 2 ^ j * d → nearest_even (n * g) d ≡ nearest_even (q * g) (2 ^ k)
rescaled n d q g j k D v = closest_same (n * g) d (q * g) (2 ^ k) D (pow_pos k) (eq_of_mul-eq-mul_right (2 ^ j) (pow_pos j) _ _ go)
  where
    go : n * g * 2 ^ k * 2 ^ j ≡ q * g * d * 2 ^ j
    go =
        let a : n * (2 ^ j * 2 ^ k) ≡ q * 2 ^ j * d = ap (λ (z : ℕ). n * z) (sym (pow-add 2 j k)) ∙ v in
        simp (mul_assoc, mul_comm, mul_left_comm) (simp (mul_assoc, mul_comm, mul_left_comm) at (ap (λ (z : ℕ). z * g) a))

-- ---- what the proof of `nanos` cites
module _ (x : Float) (F : T (fits binary64 x)) (a : T (le milli x)) (c : T (lt x top26)) where
  abbrev pub b : ℕ
  b = to_bits binary64 x

  z : Shape b x
  z = subst (λ (k : Float). Shape b k) (of_bits-to_bits binary64 x F) (shape_of b (subst (λ (k : Float). Within k) (sym (of_bits-to_bits binary64 x F)) (within x a c)))

  pub is_no_nan : T (not (is_nan x))
  is_no_nan = no_nan x (within x a c).0

  pub exponent_le : b / 2 ^ 52 ≤ 1049
  exponent_le = go (b / 2 ^ 52) z.0 z.1 z.3
    where
      go : (e j : ℕ) → e ≡ suc j → j < 1048 → e ≤ 1049
      go e j p q = omega arith

  pub drop_in : (0 < 1049 - b / 2 ^ 52) × (1049 - b / 2 ^ 52 < 63)
  drop_in = go (b / 2 ^ 52) z.0 z.1 z.2 z.3
    where
      go : (e j : ℕ) → e ≡ suc j → 1012 ≤ j → j < 1048 → (0 < 1049 - e) × (1049 - e < 63)
      go e j p q r = (omega arith, omega arith)

  pub digits_lt : bit_or (bit_and b (2 ^ 52 - 1)) (2 ^ 52) < 2 ^ 53
  digits_lt = subst (λ (k : ℕ). k < 2 ^ 53) (sym (digits_are b)) (with_lead (b % 2 ^ 52) (mod-lt b (pow_pos 52)))

  pub rounded_is : nearest_even (bit_or (bit_and b (2 ^ 52 - 1)) (2 ^ 52) * second) (2 ^ (1049 - b / 2 ^ 52 + 26)) ≡ nanos x
  rounded_is =
      let j = z.0 in
      let q = 2 ^ 52 + b % 2 ^ 52 in
      ap (λ (k : ℕ). nearest_even (k * second) (2 ^ (1049 - b / 2 ^ 52 + 26))) (digits_are b)
      ∙ ap (λ (k : ℕ). nearest_even (q * second) (2 ^ k)) (by (b / 2 ^ 52) j z.1 z.3)
      ∙ sym (rescaled (num x) (den x) q second j (1074 - j) (den_pos x) (ap (λ (k : ℕ). num x * 2 ^ k) (join j z.3) ∙ z.4))
    where
      by : (e j : ℕ) → e ≡ suc j → j < 1048 → 1049 - e + 26 ≡ 1074 - j
      by e j p q = omega arith

      join : (j : ℕ) → j < 1048 → j + (1074 - j) ≡ 1074
      join j h = omega arith
