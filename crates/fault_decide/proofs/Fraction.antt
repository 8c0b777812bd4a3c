-- The fraction of a draw, exactly: the top 53 bits over 2^53, so it is at least 0 and below 1.
use mathlib.Core.Path.{◌≡◌, refl, sym, ap, ◌∙◌, subst}
use mathlib.Core.Bool.{true, false, ◌&&◌, ◌||◌, true≢false}
use mathlib.Core.List.{List, [], ◌∷◌}
use Prim.Native.Nat.{ℕ, zero, suc, ◌+◌, ◌*◌, ◌/◌, ◌%◌, ◌^◌, ◌≤◌, ◌<◌}
use native.Mathlib.Nat.{lt_of_lt_of_le, le_of_lt, mul_comm, mul_assoc, mul-one, mul-lt-mul_of_pos_right, lt_of_mul-lt-mul_right, mod-lt}
use native.Mathlib.Omega.{arith}
use lib.IntN.{pos}
use lib.Dec.{eqb, ltb, lit≤, lit<}
use lib.Pow.{pow-add, pow_pos, shl_lt, shr_lt}
use lib.ListN.{get_or}
use lib.Ieee.{Float, nan, inf, fin, binary64, up, down, round, mul, lt, eq, le, of_int}
use lib.Ieee.Bits.{is_true}
use lib.Ieee.Exact.{HasValue, round_exact}
use lib.Ieee.Back.{round_whole}
use lib.Ieee.Fits.{down_pos}
use lib.Ieee.Order.{le_of_values}
use borrow.Author.Tests.{le-ltb, ne_eqb}
use Rattle.math_word.specs.Word.{add32}
use Rattle.rand_chacha8.specs.Chacha.{word_at, block_of, sums, double_rounds, initial}
use Rattle.rand_streams.specs.Streams.{word_pair}
use Rattle.math_float.specs.Float.{zero64, one64}
use Rattle.rand_draw.specs.Fraction.{fraction, tiny53}
use Rattle.math_bounds.proofs.Near.{mul_is}

-- ---- a draw is below 2^64
sums_lt : (s t : List ℕ) (i : ℕ) → get_or (sums s t) i 0 < 2 ^ 32
unfolding sums add32
sums_lt [] t i = lit< tt
sums_lt (x ∷ s) [] i = lit< tt
sums_lt (x ∷ s) (y ∷ t) zero = mod-lt (x + y) (lit< tt)
sums_lt (x ∷ s) (y ∷ t) (suc i) = sums_lt s t i

word_lt : (key : List ℕ) (n : ℕ) → word_at key n < 2 ^ 32
unfolding word_at block_of
word_lt key n = sums_lt (double_rounds 4 (initial key (n / 16))) (initial key (n / 16)) (n % 16)

pub pair_lt : (key : List ℕ) (n : ℕ) → word_pair key n < 2 ^ 64
unfolding word_pair
pair_lt key n = let a = word_lt key n in let b = word_lt key (n + 1) in omega (arith, a, b)

-- ---- its fraction is exact: the top 53 bits over 2^53
of : ℕ → Float
of k = of_int binary64 (pos k)

of_value : (k : ℕ) → k ≤ 2 ^ 53 → HasValue (of k) false k 1
unfolding of of_int
of_value k h = round_whole binary64 false k h

part_value : (k : ℕ) → k < 2 ^ 53 → HasValue (mul binary64 (of k) tiny53) false k (2 ^ 53)
part_value k h =
    subst (λ (z : Float). HasValue z false k (2 ^ 53)) (sym (mul_is (of k) tiny53 k 1 1 (2 ^ 53) (pow_pos 0) (pow_pos 53) (of_value k (le_of_lt h)) (refl, refl)))
    (subst (λ (z : ℕ). HasValue (round binary64 false (k * 1) (1 * 2 ^ 53)) false z (2 ^ 53)) (mul-one k)
    (round_exact binary64 false (k * 1) (1 * 2 ^ 53) k 1021 (pow_pos 53) h (lt_of_lt_of_le (shl_lt 53 1021 h) (lit≤ tt)) (go k (2 ^ 1021) (2 ^ 53) (2 ^ 1074) (pow-add 2 1021 53))))
  where
    go : (k a b c : ℕ) → c ≡ a * b → k * 1 * c ≡ k * a * b
    go k a b c e = ap (λ (z : ℕ). z * c) (mul-one k) ∙ ap (λ (z : ℕ). k * z) e ∙ sym (mul_assoc k a b)

pub fraction_value : (d : ℕ) → d < 2 ^ 64 → HasValue (fraction d) false (d / 2 ^ 11) (2 ^ 53)
unfolding fraction of
fraction_value d h = part_value (d / 2 ^ 11) (shr_lt 53 11 h)

-- ---- compared with 0 and 1
below_one : (x : Float) (k q : ℕ) → 0 < q → k < q → HasValue x false k q → le one64 x ≡ false
unfolding le lt eq
below_one nan k q Q l h = absurd h
below_one (inf s) k q Q l h = absurd h
below_one (fin true m e) k q Q l h = absurd (true≢false h.0)
below_one (fin false m e) k q Q l h =
    let s : m * up e * q < down e * q = subst (λ (z : ℕ). z < down e * q) (sym h.1) (subst (λ (z : ℕ). k * down e < z) (mul_comm q (down e)) (mul-lt-mul_of_pos_right l (down_pos e))) in
    let b : m * up e < down e = lt_of_mul-lt-mul_right q s in
    decided (1 * up (pos 0) * down e) (m * up e * down (pos 0)) (omega (arith, b))
  where
    decided : (a b : ℕ) → b < a → (ltb a b || (eqb a b && true)) ≡ false
    decided a b h = rw (le-ltb a b (le_of_lt h), ne_eqb a b (λ z. omega arith))

-- ---- THE LAWS
pub fraction_least : (d : ℕ) → d < 2 ^ 64 → le zero64 (fraction d) ≡ true
fraction_least d h = is_true (le zero64 (fraction d)) (le_of_values zero64 (fraction d) 0 1 (d / 2 ^ 11) (2 ^ 53) (pow_pos 0) (pow_pos 53) (refl, refl) (fraction_value d h) (omega arith))

pub fraction_below : (d : ℕ) → d < 2 ^ 64 → le one64 (fraction d) ≡ false
fraction_below d h = below_one (fraction d) (d / 2 ^ 11) (2 ^ 53) (pow_pos 53) (shr_lt 53 11 h) (fraction_value d h)
