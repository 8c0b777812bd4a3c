-- The arithmetic of `rounded`: d * 10 ^ 9 / 2 ^ (k + 26), rounded by halves.
use mathlib.Core.Path.{◌≡◌, refl, sym, ap, ◌∙◌, subst}
use Prim.Native.Nat.{ℕ, zero, suc, ◌+◌, ◌-◌, ◌*◌, ◌/◌, ◌%◌, ◌^◌, ◌≤◌, ◌<◌, compare, Ordering}
use native.Mathlib.Nat.{one-mul, pow-suc, lt_of_le_of_lt, lt_irrefl, add_comm}
use native.Mathlib.Omega.{arith}
use native.Mathlib.Numerals.{add-one}
use mathlib.Core.Bool.{not}
use lib.Dec.{T, is_le, compare_is_eq, eqb, leb→le, nleb→lt, eqb→eq, eqb_refl, lit<}
use lib.Arith.{lt_of_le-ne}
use lib.Pow.{pow-add, pow_pos, shl_exact, shl-shr, shr-shr, high, mod-pow-add, shr_le}
use lib.Pow as P
use lib.Bits.{bit_and, and_mask, mask_lt}
use lib.Ieee.{nearest}
use Rattle.math_time.specs.Seconds.{nearest_even, second}

-- ---- what `compare` is, from the order
abbrev pub Cmp : Ordering → ℕ → ℕ → Type 0
Cmp Ordering.lt a b = a < b
Cmp Ordering.eq a b = a ≡ b
Cmp Ordering.gt a b = b < a

pub cmp : (a b : ℕ) → Cmp (compare a b) a b
cmp a b = go (compare a b) (leb→le a b) (nleb→lt a b) (eqb→eq a b) (λ (e : a ≡ b). subst (λ (x : ℕ). T (eqb a x)) e (eqb_refl a))
  where
    go : (o : Ordering) → (T (is_le o) → a ≤ b) → (T (not (is_le o)) → b < a) → (T (compare_is_eq o) → a ≡ b) → (a ≡ b → T (compare_is_eq o)) → Cmp o a b
    go Ordering.lt h k e n = lt_of_le-ne (h tt) n
    go Ordering.eq h k e n = e tt
    go Ordering.gt h k e n = k tt

pub is_lt : (a b : ℕ) → a < b → compare a b ≡ Ordering.lt
is_lt a b h = go (compare a b) (cmp a b)
  where
    go : (o : Ordering) → Cmp o a b → o ≡ Ordering.lt
    go Ordering.lt c = refl
    go Ordering.eq c = absurd (omega arith)
    go Ordering.gt c = absurd (omega arith)

pub is_eq : (a b : ℕ) → a ≡ b → compare a b ≡ Ordering.eq
is_eq a b h = go (compare a b) (cmp a b)
  where
    go : (o : Ordering) → Cmp o a b → o ≡ Ordering.eq
    go Ordering.lt c = absurd (omega arith)
    go Ordering.eq c = refl
    go Ordering.gt c = absurd (omega arith)

pub is_gt : (a b : ℕ) → b < a → compare a b ≡ Ordering.gt
is_gt a b h = go (compare a b) (cmp a b)
  where
    go : (o : Ordering) → Cmp o a b → o ≡ Ordering.gt
    go Ordering.lt c = absurd (omega arith)
    go Ordering.eq c = absurd (omega arith)
    go Ordering.gt c = refl

-- ---- the product by halves, as the code has it
abbrev pub low : ℕ → ℕ
low d = bit_and d (2 ^ 26 - 1) * second

abbrev pub whole : ℕ → ℕ
whole d = d / 2 ^ 26 * second + low d / 2 ^ 26

abbrev pub rest : ℕ → ℕ
rest d = bit_and (low d) (2 ^ 26 - 1)

pub low_small : (d : ℕ) → low d < 2 ^ 56
low_small d = omega (arith, mask_lt d 26)

pub whole_small : (d : ℕ) → d < 2 ^ 53 → whole d < 2 ^ 58
whole_small d h = omega (arith, mask_lt d 26)

halves : (d : ℕ) → d * second ≡ whole d * 2 ^ 26 + rest d
halves d = go (bit_and d (2 ^ 26 - 1)) (rest d) (and_mask d 26) (and_mask (low d) 26)
  where
    go : (m r : ℕ) → m ≡ d % 2 ^ 26 → r ≡ m * second % 2 ^ 26 → d * second ≡ (d / 2 ^ 26 * second + m * second / 2 ^ 26) * 2 ^ 26 + r
    go m r e f = omega arith

rest_lt : (d : ℕ) → rest d < 2 ^ 26
rest_lt d = mask_lt (low d) 26

-- ---- the quotient and what is compared
by_halves : (w r k : ℕ) → r < 2 ^ 26 → nearest_even (w * 2 ^ 26 + r) (2 ^ (k + 26)) ≡ nearest (w / 2 ^ k) (compare ((w % 2 ^ k * 2 ^ 26 + r) * 2) (2 ^ (k + 26)))
by_halves w r k h =
    let n = w * 2 ^ 26 + r in
    let q : n / 2 ^ (k + 26) ≡ w / 2 ^ k = ap (λ (x : ℕ). n / 2 ^ x) (add_comm k 26) ∙ sym (shr-shr n 26 k) ∙ ap (λ (x : ℕ). x / 2 ^ k) (high w 26 h) in
    let m : n % 2 ^ (k + 26) ≡ w % 2 ^ k * 2 ^ 26 + r = mod-pow-add n k 26 ∙ ap (λ (x : ℕ). x % 2 ^ k * 2 ^ 26 + n % 2 ^ 26) (high w 26 h) ∙ ap (λ (x : ℕ). w % 2 ^ k * 2 ^ 26 + x) (P.low w 26 h) in
    ap (λ (x : ℕ). nearest x (compare (n % 2 ^ (k + 26) * 2) (2 ^ (k + 26)))) q
    ∙ ap (λ (x : ℕ). nearest (w / 2 ^ k) (compare (x * 2) (2 ^ (k + 26)))) m

-- ---- the tests of the code: u is the unit 2 ^ k
abbrev pub unit : ℕ → ℕ
unit k = 1 * 2 ^ k % 2 ^ 64

unit_is : (k : ℕ) → k < 63 → unit k ≡ 2 ^ k
unit_is k h = shl_exact {a = 1} 1 k 64 (lit< tt) (room k h) ∙ one-mul (2 ^ k)
  where
    room : (k : ℕ) → k < 63 → 1 + k ≤ 64
    room k h = omega arith

pub unit_pos : (k : ℕ) → k < 63 → 1 ≤ unit k
unit_pos k h = subst (λ (u : ℕ). 1 ≤ u) (sym (unit_is k h)) (pow_pos k)

abbrev pub cut : ℕ → ℕ → ℕ
cut d k = bit_and (whole d) (unit k - 1)

abbrev pub half : ℕ → ℕ
half k = unit k / 2 ^ 1

abbrev pub result : ℕ → ℕ → ℕ
result d k = nearest_even (d * second) (2 ^ (k + 26))

module _ (d k : ℕ) (K : 0 < k) (L : k < 63) where
  cut_is : cut d k ≡ whole d % 2 ^ k
  cut_is = ap (λ (u : ℕ). bit_and (whole d) (u - 1)) (unit_is k L) ∙ and_mask (whole d) k

  half_is : half k * 2 * 2 ^ 26 ≡ 2 ^ (k + 26)
  half_is = ap (λ (u : ℕ). u / 2 ^ 1 * 2 * 2 ^ 26) (unit_is k L) ∙ ap (λ (x : ℕ). x * 2 ^ 26) (go k K) ∙ sym (pow-add 2 k 26)
    where
      go : (k : ℕ) → 0 < k → 2 ^ k / 2 ^ 1 * 2 ≡ 2 ^ k
      go zero h = absurd (lt_irrefl 0 h)
      go (suc k) h = ap (λ (x : ℕ). x / 2 ^ 1 * 2) (pow-suc 2 k) ∙ ap (λ (x : ℕ). x * 2) (shl-shr (2 ^ k) 1) ∙ sym (pow-suc 2 k)

  open_up : result d k ≡ nearest (whole d / 2 ^ k) (compare ((cut d k * 2 ^ 26 + rest d) * 2) (half k * 2 * 2 ^ 26))
  open_up =
      ap (λ (n : ℕ). nearest_even n (2 ^ (k + 26))) (halves d)
      ∙ by_halves (whole d) (rest d) k (rest_lt d)
      ∙ ap (λ (x : ℕ). nearest (whole d / 2 ^ k) (compare ((x * 2 ^ 26 + rest d) * 2) (2 ^ (k + 26)))) (sym cut_is)
      ∙ ap (λ (x : ℕ). nearest (whole d / 2 ^ k) (compare ((cut d k * 2 ^ 26 + rest d) * 2) x)) (sym half_is)

  pub under : cut d k < half k → whole d / 2 ^ k ≡ result d k
  under h = sym (open_up ∙ ap (nearest (whole d / 2 ^ k)) (is_lt _ _ (go (cut d k) (half k) (rest d) h (rest_lt d))))
    where
      go : (c h r : ℕ) → c < h → r < 2 ^ 26 → (c * 2 ^ 26 + r) * 2 < h * 2 * 2 ^ 26
      go c h r a b = omega arith

  up_by : half k * 2 * 2 ^ 26 < (cut d k * 2 ^ 26 + rest d) * 2 → whole d / 2 ^ k + 1 ≡ result d k
  up_by h = add-one (whole d / 2 ^ k) ∙ sym (open_up ∙ ap (nearest (whole d / 2 ^ k)) (is_gt _ _ h))

  pub over : half k < cut d k → whole d / 2 ^ k + 1 ≡ result d k
  over h = up_by (go (cut d k) (half k) (rest d) h)
    where
      go : (c h r : ℕ) → h < c → h * 2 * 2 ^ 26 < (c * 2 ^ 26 + r) * 2
      go c h r a = omega arith

  pub over_rest : half k ≤ cut d k → cut d k ≤ half k → 0 < rest d → whole d / 2 ^ k + 1 ≡ result d k
  over_rest a b h = up_by (go (cut d k) (half k) (rest d) a b h)
    where
      go : (c h r : ℕ) → h ≤ c → c ≤ h → 0 < r → h * 2 * 2 ^ 26 < (c * 2 ^ 26 + r) * 2
      go c h r a b e = omega arith

  pub tie : half k ≤ cut d k → cut d k ≤ half k → rest d ≤ 0 → whole d / 2 ^ k + whole d / 2 ^ k % 2 ≡ result d k
  tie a b h = sym (open_up ∙ ap (nearest (whole d / 2 ^ k)) (is_eq _ _ (go (cut d k) (half k) (rest d) a b h)))
    where
      go : (c h r : ℕ) → h ≤ c → c ≤ h → r ≤ 0 → (c * 2 ^ 26 + r) * 2 ≡ h * 2 * 2 ^ 26
      go c h r a b e = omega arith

pub kept_small : (d k : ℕ) → d < 2 ^ 53 → whole d / 2 ^ k < 2 ^ 58
kept_small d k h = lt_of_le_of_lt (shr_le (whole d) k) (whole_small d h)
