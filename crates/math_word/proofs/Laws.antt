-- The product of two numbers of 64 bits by its halves of 32, and the bounds that the code asks for; std's rotations beside the papers'.
use Rattle.std.proofs.Common.{◌≡◌, ℕ, ◌+◌, ◌*◌, ◌/◌, ◌%◌, ◌^◌, ◌<◌, ◌≤◌, sym, ap, ap₂, ◌∙◌, le_trans, mul-le-mul_right, mul-le-mul_left, div-add-mod', arith, pow_pos, ◌-◌, bit_or}
use Rattle.std.specs.Int.{w32, rotate_left, rotate_right}
use Rattle.math_word.specs.Word.{rotl32, rotr32}
use Rattle.math_word.proofs.Columns.{upper_digits, lower_digits, middle, next}

-- the product of two halves
pub bound : (x y : ℕ) → x < 2 ^ 32 → y < 2 ^ 32 → x * y ≤ 18446744065119617025
bound x y p q =
    let h : x ≤ 4294967295 = omega arith in
    let k : y ≤ 4294967295 = omega arith in
    le_trans (mul-le-mul_left x k) (mul-le-mul_right 4294967295 h)

halves : (a b : ℕ) → a * b ≡ (a / 2 ^ 32 * 2 ^ 32 + a % 2 ^ 32) * (b / 2 ^ 32 * 2 ^ 32 + b % 2 ^ 32)
halves a b = ap (λ x. x * b) (sym (div-add-mod' a (2 ^ 32))) ∙ ap (λ y. (a / 2 ^ 32 * 2 ^ 32 + a % 2 ^ 32) * y) (sym (div-add-mod' b (2 ^ 32)))

-- the middle column's sum, and the next one's
abbrev column₁ : ℕ → ℕ → ℕ
column₁ a b = a / 2 ^ 32 * (b % 2 ^ 32) + a % 2 ^ 32 * (b % 2 ^ 32) / 2 ^ 32

abbrev column₂ : ℕ → ℕ → ℕ
column₂ a b = column₁ a b % 2 ^ 32 + a % 2 ^ 32 * (b / 2 ^ 32)

high_half : (a b : ℕ) → a / 2 ^ 32 * (b / 2 ^ 32) + column₁ a b / 2 ^ 32 + column₂ a b / 2 ^ 32 ≡ a * b / 2 ^ 64
unfolding next middle
high_half a b =
    sym (ap (λ x. x / 2 ^ 64) (halves a b) ∙ upper_digits (2 ^ 32) (a % 2 ^ 32) (a / 2 ^ 32) (b % 2 ^ 32) (b / 2 ^ 32) (pow_pos 32))

low_half : (a b : ℕ) → column₂ a b % 2 ^ 32 * 2 ^ 32 + a % 2 ^ 32 * (b % 2 ^ 32) % 2 ^ 32 ≡ a * b % 2 ^ 64
unfolding next middle
low_half a b =
    sym (ap (λ x. x % 2 ^ 64) (halves a b) ∙ lower_digits (2 ^ 32) (a % 2 ^ 32) (a / 2 ^ 32) (b % 2 ^ 32) (b / 2 ^ 32) (pow_pos 32))

-- the same, where the low halves of factors and columns have names
module _ (a b u v t : ℕ) (p : u ≡ a % 2 ^ 32) (q : v ≡ b % 2 ^ 32) (r : t ≡ (a / 2 ^ 32 * v + u * v / 2 ^ 32) % 2 ^ 32) where
  pub high_made : a / 2 ^ 32 * (b / 2 ^ 32) + (a / 2 ^ 32 * v + u * v / 2 ^ 32) / 2 ^ 32 + (t + u * (b / 2 ^ 32)) / 2 ^ 32 ≡ a * b / 2 ^ 64
  high_made = cc (high_half a b)

  pub low_made : (x y : ℕ) → x ≡ (t + u * (b / 2 ^ 32)) % 2 ^ 32 → y ≡ u * v % 2 ^ 32 → x * 2 ^ 32 + y ≡ a * b % 2 ^ 64
  low_made x y e f = cc (low_half a b)

-- std's rotations are these
pub rotl_is : (x n : ℕ) → 0 < n → n < 32 → rotate_left w32 x n ≡ rotl32 x n
unfolding rotl32
rotl_is x n p q =
    let a : n % 32 ≡ n = omega arith in
    let b : (32 - n % 32) % 32 ≡ 32 - n = omega arith in
    ap₂ (λ (i j : ℕ). bit_or ((x * 2 ^ i) % 2 ^ 32) (x / 2 ^ j)) a b

pub rotr_is : (x n : ℕ) → 0 < n → n < 32 → rotate_right w32 x n ≡ rotr32 x n
unfolding rotr32
rotr_is x n p q =
    let a : n % 32 ≡ n = omega arith in
    let b : (32 - n % 32) % 32 ≡ 32 - n = omega arith in
    ap₂ (λ (i j : ℕ). bit_or (x / 2 ^ i) ((x * 2 ^ j) % 2 ^ 32)) a b
