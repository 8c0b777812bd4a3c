-- The order of floats by their values in units of 2 ^ -1074, and the range that `nanos` asks for.
use mathlib.Core.Path.{◌≡◌, refl, sym, ap, ◌∙◌, subst}
use mathlib.Core.Logic.{◌⊎◌, inl, inr}
use mathlib.Core.Bool.{Bool, true, false, not, true≢false, false≢true}
use Prim.Native.Nat.{ℕ, zero, suc, ◌+◌, ◌*◌, ◌^◌, ◌≤◌, ◌<◌}
use native.Mathlib.Nat.{le_trans, le_of_eq, mul-le-mul_right, le_of_mul-le-mul_right, mul-pos, not-le_of_lt, lt_of_not-le, mul_right_comm, zero-lt-suc}
use native.Mathlib.Omega.{arith}
use lib.Dec.{T, ltb, ltb→lt, nltb→le}
use lib.Pow.{pow_pos}
use lib.Ieee.{Float, nan, inf, fin, up, down, neg, lt, le}
use lib.Ieee.Exact.{HasValue}
use lib.Ieee.Fits.{down_pos}
use lib.Ieee.Order.{transfer, le_of_values}
use borrow.Author.Tests.{lt-ltb}
use lib.Ieee.Nearest.{closest_same}
use lib.Ieee.Positive.{num, den, den_pos, value→cross}
use Rattle.math_time.specs.Seconds.{second, nanos, nearest_even, milli, top, InRange}
use Rattle.math_time.proofs.Limits.{nanos_most}
use Rattle.math_bounds.proofs.Near.{Q, order}
use Rattle.math_bounds.proofs.Chain.{Val}

-- ---- small things
pub le_or_lt : (a b : ℕ) → (a ≤ b) ⊎ (b < a)
le_or_lt a b = go (ltb b a) (ltb→lt b a) (nltb→le b a)
  where
    go : (t : Bool) → (T t → b < a) → (T (not t) → a ≤ b) → (a ≤ b) ⊎ (b < a)
    go true h k = inr (h tt)
    go false h k = inl (k tt)

pub neg_neg : (x : Float) → neg (neg x) ≡ x
unfolding neg
neg_neg nan = refl
neg_neg (inf true) = refl
neg_neg (inf false) = refl
neg_neg (fin true m e) = refl
neg_neg (fin false m e) = refl

-- ---- the order of two values, by their units
back_le : (X a dx Y b dy q : ℕ) → 0 < dx → 0 < dy → 0 < q → X * q ≡ a * dx → Y * q ≡ b * dy → Y * dx ≤ X * dy → b ≤ a
back_le X a dx Y b dy q DX DY K p r h = le_of_mul-le-mul_right (transfer b a q q Y X dy dx DY DX (sym r) (sym p) h) K

abbrev pub Ordered : Bool → ℕ → ℕ → Type 0
Ordered true a b = a < b
Ordered false a b = b ≤ a

pub lt_value : (x y : Float) (a b : ℕ) → Val x a → Val y b → Ordered (lt x y) a b
unfolding lt
lt_value nan y a b h k = absurd h
lt_value (inf s) y a b h k = absurd h
lt_value (fin s m e) nan a b h k = absurd k
lt_value (fin s m e) (inf t) a b h k = absurd k
lt_value (fin true m e) (fin t n d) a b h k = absurd (true≢false h.0)
lt_value (fin false m e) (fin true n d) a b h k = absurd (true≢false k.0)
lt_value (fin false m e) (fin false n d) a b h k = go (ltb (m * up e * down d) (n * up d * down e)) (ltb→lt (m * up e * down d) (n * up d * down e)) (nltb→le (m * up e * down d) (n * up d * down e))
  where
    go : (t : Bool) → (T t → m * up e * down d < n * up d * down e) → (T (not t) → n * up d * down e ≤ m * up e * down d) → Ordered t a b
    go true l r = lt_of_not-le (λ (g : b ≤ a). not-le_of_lt (l tt) (order (m * up e) a (down e) (n * up d) b (down d) Q (pow_pos 1074) h.1 k.1 g))
    go false l r = back_le (m * up e) a (down e) (n * up d) b (down d) Q (down_pos e) (down_pos d) (pow_pos 1074) h.1 k.1 (r tt)

pub lt_negative : (x : Float) (a : ℕ) → HasValue x true a Q → lt x milli ≡ true
unfolding lt
lt_negative nan a h = absurd h
lt_negative (inf s) a h = absurd h
lt_negative (fin false m e) a h = absurd (false≢true h.0)
lt_negative (fin true m e) a h = lt-ltb 0 (m * up e * 2 ^ 60 + 1152921504606847 * 1 * down e) (go (m * up e * 2 ^ 60) (down e) (down_pos e))
  where
    go : (x y : ℕ) → 0 < y → 0 < x + 1152921504606847 * 1 * y
    go x y h = omega arith

-- ---- a negative value is below a positive one
pub lt_signs : (x y : Float) (a b : ℕ) → HasValue x true a Q → Val y b → 0 < b → T (lt x y)
unfolding lt
lt_signs nan y a b h k l = absurd h
lt_signs (inf s) y a b h k l = absurd h
lt_signs (fin s m e) nan a b h k l = absurd k
lt_signs (fin s m e) (inf t) a b h k l = absurd k
lt_signs (fin false m e) (fin t n d) a b h k l = absurd (false≢true h.0)
lt_signs (fin true m e) (fin true n d) a b h k l = absurd (true≢false k.0)
lt_signs (fin true m e) (fin false n d) a b h k l =
    subst T (sym (lt-ltb 0 (m * up e * down d + n * up d * down e) (go (m * up e * down d) (n * up d) (down e) (down_pos e) (some (n * up d) (down d) k.1 (down_pos d))))) tt
  where
    some : (x z : ℕ) → x * Q ≡ b * z → 0 < z → 0 < x
    some zero z p q = absurd (not-le_of_lt (mul-pos l q) (le_of_eq (sym p)))
    some (suc x) z p q = zero-lt-suc x

    go : (x y z : ℕ) → 0 < z → 0 < y → 0 < x + y * z
    go x y z p q = let r : 0 < y * z = mul-pos q p in omega arith

pub lt_of_less : (x y : Float) (a b : ℕ) → Val x a → Val y b → a < b → T (lt x y)
lt_of_less x y a b h k l = go (lt x y) (lt_value x y a b h k)
  where
    go : (t : Bool) → Ordered t a b → T t
    go true o = tt
    go false o = absurd (not-le_of_lt l o)

-- ---- milliseconds
abbrev pub Mi : ℕ
Mi = 1152921504606847 * 2 ^ 1014

pub milli_value : Val milli Mi
milli_value = (refl, refl)

pub nanos_of : (x : Float) (t : ℕ) → Val x t → nanos x ≡ nearest_even (t * second) Q
nanos_of x t v = closest_same (num x * second) (den x) (t * second) Q (den_pos x) (pow_pos 1074) (go (num x) (den x) t Q second (value→cross x t Q v))
  where
    go : (n d t q g : ℕ) → n * q ≡ t * d → n * g * q ≡ t * g * d
    go n d t q g h = mul_right_comm n g q ∙ ap (λ (z : ℕ). z * g) h ∙ mul_right_comm t d g

pub milli_in : InRange milli
unfolding le lt
milli_in = (tt, tt)

-- a value from Mi units up and below 2 ^ 26 is in the range that `nanos` asks for
pub in_range_of : (x : Float) (t : ℕ) → Val x t → Mi ≤ t → t < 2 ^ 26 * Q → InRange x
in_range_of x t v a b = (le_of_values milli x Mi Q t Q (pow_pos 1074) (pow_pos 1074) milli_value v (mul-le-mul_right Q a), under (lt x top) (lt_value x top t (2 ^ 26 * Q) v (refl, refl)))
  where
    under : (b : Bool) → Ordered b t (2 ^ 26 * Q) → T b
    under true o = tt
    under false o = absurd (not-le_of_lt b o)

-- a value of at most p seconds gives at most p seconds
pub nanos_upto : (x : Float) (t p : ℕ) → Val x t → t ≤ p * Q → nanos x ≤ p * second
nanos_upto x t p v h = nanos_most x p
    (le_of_mul-le-mul_right (le_trans (le_of_eq (value→cross x t Q v)) (le_trans (mul-le-mul_right (den x) h) (le_of_eq (mul_right_comm p Q (den x))))) (pow_pos 1074))
