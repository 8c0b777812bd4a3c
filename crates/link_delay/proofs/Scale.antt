-- From one denominator to another: whole numbers only.
use mathlib.Core.Path.{◌≡◌, sym, ap, ◌∙◌}
use mathlib.Core.Logic.{inl, inr}
use Prim.Native.Nat.{ℕ, ◌+◌, ◌-◌, ◌*◌, ◌≤◌, ◌<◌, max}
use native.Mathlib.Nat.{mul_comm, mul-sub, mul-le-mul_right, mul-lt-mul_of_pos_right, lt_of_mul-lt-mul_right, le_of_lt, le_antisymm}
use native.Mathlib.Omega.{arith}
use Rattle.math_bounds.proofs.Order.{le_or_lt}

sub_mul : (b c p : ℕ) → (b - c) * p ≡ b * p - c * p
sub_mul b c p = mul_comm (b - c) p ∙ mul-sub p b c ∙ ap (λ (z : ℕ). z - p * c) (mul_comm p b) ∙ ap (λ (z : ℕ). b * p - z) (mul_comm p c)

max_right : (a b : ℕ) → a ≤ b → max a b ≡ b
max_right a b h = omega arith

max_left : (a b : ℕ) → b ≤ a → max a b ≡ a
max_left a b h = omega arith

pub max_mul : (a b p : ℕ) → max a b * p ≡ max (a * p) (b * p)
max_mul a b p = elim (le_or_lt a b) [
  | inl h ↦ ap (λ (z : ℕ). z * p) (max_right a b h) ∙ sym (max_right (a * p) (b * p) (mul-le-mul_right p h))
  | inr h ↦ ap (λ (z : ℕ). z * p) (max_left a b (le_of_lt h)) ∙ sym (max_left (a * p) (b * p) (mul-le-mul_right p (le_of_lt h)))
]

-- the greater of a and b − c, over p and over d
greater : (a b c a' b' c' p d : ℕ) → a * p ≡ a' * d → b * p ≡ b' * d → c * p ≡ c' * d → max a (b - c) * p ≡ max a' (b' - c') * d
greater a b c a' b' c' p d x y z =
    max_mul a (b - c) p
    ∙ ap (λ (w : ℕ). max (a * p) w) (sub_mul b c p ∙ ap (λ (w : ℕ). w - c * p) y ∙ ap (λ (w : ℕ). b' * d - w) z ∙ sym (sub_mul b' c' d))
    ∙ ap (λ (w : ℕ). max w ((b' - c') * d)) x
    ∙ sym (max_mul a' (b' - c') d)

-- the fraction is f / c, and m / p with f * p ≡ m * c; l is the floor, q 2 ^ 52
module _ (f c m p q n k l : ℕ) (C : 0 < c) (P : 0 < p) (same : f * p ≡ m * c) where
  abbrev over : ℕ
  over = max (l * (q * c)) (n * (q * c) + n * (2 * k * f) - n * (f * q))

  abbrev under : ℕ
  under = max (l * (q * p)) (n * (q * p) + n * m * (2 * k) - n * m * q)

  equal : over * p ≡ under * c
  equal = greater (l * (q * c)) (n * (q * c) + n * (2 * k * f)) (n * (f * q)) (l * (q * p)) (n * (q * p) + n * m * (2 * k)) (n * m * q) p c (omega arith) second third
    where
      second : (n * (q * c) + n * (2 * k * f)) * p ≡ (n * (q * p) + n * m * (2 * k)) * c
      second = let x : n * (2 * k) * (f * p) ≡ n * (2 * k) * (m * c) = ap (λ (z : ℕ). n * (2 * k) * z) same in omega arith

      third : n * (f * q) * p ≡ n * m * q * c
      third = let x : n * q * (f * p) ≡ n * q * (m * c) = ap (λ (z : ℕ). n * q * z) same in omega arith

  pub not_over : (r : ℕ) → r * (q * c) < over + q * c → r * (q * p) < under + q * p
  not_over r h = lt_of_mul-lt-mul_right c (go (over) (under) equal (mul-lt-mul_of_pos_right h P))
    where
      go : (o u : ℕ) → o * p ≡ u * c → r * (q * c) * p < (o + q * c) * p → r * (q * p) * c < (u + q * p) * c
      go o u e g = omega arith

  pub not_under : (r : ℕ) → over < r * (q * c) + q * c → under < r * (q * p) + q * p
  not_under r h = lt_of_mul-lt-mul_right c (go (over) (under) equal (mul-lt-mul_of_pos_right h P))
    where
      go : (o u : ℕ) → o * p ≡ u * c → o * p < (r * (q * c) + q * c) * p → u * c < (r * (q * p) + q * p) * c
      go o u e g = omega arith

-- two whole numbers less than 1 apart
pub equal_within : (r w u : ℕ) → r * u < w * u + u → w * u < r * u + u → r ≡ w
equal_within r w u h k = le_antisymm (less r w u h) (less w r u k)
  where
    less : (x y u : ℕ) → x * u < y * u + u → x ≤ y
    less x y u h = below x y (lt_of_mul-lt-mul_right u (tidy x y u h))
      where
        tidy : (x y u : ℕ) → x * u < y * u + u → x * u < (y + 1) * u
        tidy x y u h = omega arith

        below : (x y : ℕ) → x < y + 1 → x ≤ y
        below x y h = omega arith
