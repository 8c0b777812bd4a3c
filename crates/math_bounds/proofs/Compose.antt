-- The errors of the latency's operations, put together: whole numbers only.
use mathlib.Core.Path.{◌≡◌, ap}
use Prim.Native.Nat.{ℕ, ◌+◌, ◌-◌, ◌*◌, ◌≤◌, ◌<◌, max}
use native.Mathlib.Nat.{le_trans, mul-le-mul_right, mul-le-mul_left, mul-le-mul, mul-lt-mul_of_pos_right, lt_of_mul-lt-mul_right}
use native.Mathlib.Omega.{arith}

-- 1. s, j, d, p and t are the seconds, the jitter's range, the range's width, the draw's part of it, and the sum, in one unit. The fraction is f / c, and the draw k / m.
module _ (e m c f k s j d p t : ℕ) (K : k ≤ m) where
  ek : e * k * c ≤ e * m * c
  ek = mul-le-mul_right c (mul-le-mul_left e K)

  pub seconds_up : j * c ≤ s * f + e * c → s * f ≤ j * c + e * c → d ≤ 2 * j + e → p * m ≤ k * d + e * m → t + j ≤ s + p + 2 * e
      → t * (m * c) + s * (f * m) ≤ s * (m * c) + s * (2 * k * f) + 7 * (e * (m * c))
  seconds_up two' two three four five = go ek (mul-le-mul_right (m * c) five) (mul-le-mul_right m two) (mul-le-mul_right c four) (mul-le-mul_right (k * c) three) (mul-le-mul_right (2 * k) two')
    where
      go : e * k * c ≤ e * m * c → (t + j) * (m * c) ≤ (s + p + 2 * e) * (m * c) → s * f * m ≤ (j * c + e * c) * m → p * m * c ≤ (k * d + e * m) * c →
          d * (k * c) ≤ (2 * j + e) * (k * c) → j * c * (2 * k) ≤ (s * f + e * c) * (2 * k)
          → t * (m * c) + s * (f * m) ≤ s * (m * c) + s * (2 * k * f) + 7 * (e * (m * c))
      go h a b x y z = omega arith

  pub seconds_down : s * f ≤ j * c + e * c → j * c ≤ s * f + e * c → 2 * j ≤ d + e → k * d ≤ p * m + e * m → s + p ≤ t + j + 2 * e
      → s * (m * c) + s * (2 * k * f) ≤ t * (m * c) + s * (f * m) + 7 * (e * (m * c))
  seconds_down two' two three four five = go ek (mul-le-mul_right (m * c) five) (mul-le-mul_right m two) (mul-le-mul_right c four) (mul-le-mul_right (k * c) three) (mul-le-mul_right (2 * k) two')
    where
      go : e * k * c ≤ e * m * c → (s + p) * (m * c) ≤ (t + j + 2 * e) * (m * c) → j * c * m ≤ (s * f + e * c) * m → k * d * c ≤ (p * m + e * m) * c →
          2 * j * (k * c) ≤ (d + e) * (k * c) → s * f * (2 * k) ≤ (j * c + e * c) * (2 * k)
          → s * (m * c) + s * (2 * k * f) ≤ t * (m * c) + s * (f * m) + 7 * (e * (m * c))
      go h a b x y z = omega arith

-- 2. The base is n / g seconds, so that it is ν = n * q times 1 / (g * q): σ, τ and ε are s, t and e times g.
module _ (ε m c f k σ τ ν : ℕ) (F : f ≤ c) (K : k ≤ m) where
  ef : ε * (f * m) ≤ ε * (m * c)
  ef = le_trans (mul-le-mul_left ε (mul-le-mul_right m F)) (omega arith)

  ekf : ε * (k * f) ≤ ε * (m * c)
  ekf = mul-le-mul_left ε (mul-le-mul K F)

  pub total_up : τ * (m * c) + σ * (f * m) ≤ σ * (m * c) + σ * (2 * k * f) + 7 * (ε * (m * c)) → σ ≤ ν + 2 * ε → ν ≤ σ + 2 * ε
      → τ * (m * c) + ν * (f * m) ≤ ν * (m * c) + ν * (2 * k * f) + 15 * (ε * (m * c))
  total_up h l r = go ef ekf h (mul-le-mul_right (m * c) l) (mul-le-mul_right (f * m) r) (mul-le-mul_right (2 * k * f) l)
    where
      go : ε * (f * m) ≤ ε * (m * c) → ε * (k * f) ≤ ε * (m * c) → τ * (m * c) + σ * (f * m) ≤ σ * (m * c) + σ * (2 * k * f) + 7 * (ε * (m * c))
          → σ * (m * c) ≤ (ν + 2 * ε) * (m * c) → ν * (f * m) ≤ (σ + 2 * ε) * (f * m) → σ * (2 * k * f) ≤ (ν + 2 * ε) * (2 * k * f)
          → τ * (m * c) + ν * (f * m) ≤ ν * (m * c) + ν * (2 * k * f) + 15 * (ε * (m * c))
      go i j h a b x = omega arith

  pub total_down : σ * (m * c) + σ * (2 * k * f) ≤ τ * (m * c) + σ * (f * m) + 7 * (ε * (m * c)) → σ ≤ ν + 2 * ε → ν ≤ σ + 2 * ε
      → ν * (m * c) + ν * (2 * k * f) ≤ τ * (m * c) + ν * (f * m) + 15 * (ε * (m * c))
  total_down h l r = go ef ekf h (mul-le-mul_right (m * c) r) (mul-le-mul_right (f * m) l) (mul-le-mul_right (2 * k * f) r)
    where
      go : ε * (f * m) ≤ ε * (m * c) → ε * (k * f) ≤ ε * (m * c) → σ * (m * c) + σ * (2 * k * f) ≤ τ * (m * c) + σ * (f * m) + 7 * (ε * (m * c))
          → ν * (m * c) ≤ (σ + 2 * ε) * (m * c) → σ * (f * m) ≤ (ν + 2 * ε) * (f * m) → ν * (2 * k * f) ≤ (σ + 2 * ε) * (2 * k * f)
          → ν * (m * c) + ν * (2 * k * f) ≤ τ * (m * c) + ν * (f * m) + 15 * (ε * (m * c))
      go i j h a b x = omega arith

-- 3. The whole number N of nanoseconds, and the exact one (n * u + n * b - n * a) / u, with u = m * c, a = f * m, b = 2 * k * f.
module _ (N n q u a b τ ε : ℕ) (U : 0 < u) (S : 30 * ε < q) where
  room : 30 * ε * u < q * u
  room = mul-lt-mul_of_pos_right S U

  pub nanos_up : τ * u + n * q * a ≤ n * q * u + n * q * b + 15 * (ε * u) → N * q * 2 ≤ τ * 2 + q → N * u + n * a < n * u + n * b + u
  nanos_up h l = lt_of_mul-lt-mul_right (2 * q) (go room h (mul-le-mul_right u l))
    where
      go : 30 * ε * u < q * u → τ * u + n * q * a ≤ n * q * u + n * q * b + 15 * (ε * u) → N * q * 2 * u ≤ (τ * 2 + q) * u → (N * u + n * a) * (2 * q) < (n * u + n * b + u) * (2 * q)
      go r h l = omega arith

  pub nanos_down : n * q * u + n * q * b ≤ τ * u + n * q * a + 15 * (ε * u) → τ * 2 ≤ N * q * 2 + q → n * u + n * b < N * u + n * a + u
  nanos_down h l = lt_of_mul-lt-mul_right (2 * q) (go room h (mul-le-mul_right u l))
    where
      go : 30 * ε * u < q * u → n * q * u + n * q * b ≤ τ * u + n * q * a + 15 * (ε * u) → τ * 2 * u ≤ (N * q * 2 + q) * u → (n * u + n * b) * (2 * q) < (N * u + n * a + u) * (2 * q)
      go r h l = omega arith

-- 4. With the floor of l nanoseconds
abbrev pub exact : ℕ → ℕ → ℕ → ℕ → ℕ
exact n u a b = n * u + n * b - n * a

abbrev pub Within1 : ℕ → ℕ → ℕ → Type 0
Within1 N u w = (N * u < w + u) × (w < N * u + u)

module _ (N n u a b l : ℕ) (U : 0 < u) (A : a ≤ u) where
  less : n * a ≤ n * u
  less = mul-le-mul_left n A

  pub above : N * u + n * a < n * u + n * b + u → n * u + n * b < N * u + n * a + u → l ≤ N → Within1 N u (max (l * u) (exact n u a b))
  above h k m = go (N * u) (n * a) (n * u) (n * b) (l * u) less h k (mul-le-mul_right u m)
    where
      go : (N' na nu nb l' : ℕ) → na ≤ nu → N' + na < nu + nb + u → nu + nb < N' + na + u → l' ≤ N' → (N' < max l' (nu + nb - na) + u) × (max l' (nu + nb - na) < N' + u)
      go N' na nu nb l' c h k m = (omega arith, omega arith)

  pub below : n * u + n * b < l * u + n * a + u → N ≡ l → Within1 N u (max (l * u) (exact n u a b))
  below h e = go (N * u) (n * a) (n * u) (n * b) (l * u) less h (ap (λ (z : ℕ). z * u) e)
    where
      go : (N' na nu nb l' : ℕ) → na ≤ nu → nu + nb < l' + na + u → N' ≡ l' → (N' < max l' (nu + nb - na) + u) × (max l' (nu + nb - na) < N' + u)
      go N' na nu nb l' c h e = (omega arith, omega arith)
