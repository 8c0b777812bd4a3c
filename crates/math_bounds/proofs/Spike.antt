-- A spike's product is in the range that `nanos` asks for: the draw is from 9 to 50, and the seconds are from a bit under 1 / 1000 to 181.
use mathlib.Core.Path.{sym, subst}
use mathlib.Core.Bool.{Bool, true, false}
use Prim.Native.Nat.{ℕ, ◌+◌, ◌-◌, ◌*◌, ◌/◌, ◌^◌, ◌≤◌, ◌<◌}
use native.Mathlib.Nat.{le_trans, le_of_lt, mul-le-mul, mul-le-mul_right, le_of_mul-le-mul_right, mul-pos}
use native.Mathlib.Omega.{arith}
use lib.Dec.{T, lit≤}
use lib.Pow.{pow_pos}
use lib.Ieee.{Float, binary64, add, sub, mul, neg, lt}
use Rattle.math_time.specs.Seconds.{whole, second, millisecond, seconds, nanos, InRange}
use Rattle.rand_draw.specs.Real.{real_of, tiny52}
use Rattle.math_bounds.proofs.Near.{Q, E, round_at, mul_is, neg_value}
use Rattle.math_bounds.proofs.Chain.{Val, value_add, value_minus, value_mul', secs_upto, of_units}
use Rattle.math_bounds.proofs.Order.{Ordered, lt_value, in_range_of, nanos_upto, Mi}
use Rattle.math_bounds.proofs.Delay.{part_value}
use Rattle.math_bounds.proofs.First.{spike_below}

-- the draw
pub factor : (d : ℕ) → d < 2 ^ 64 → (y : ℕ) × Val (real_of (whole 10) (whole 50) d) y × (9 * Q ≤ y)
unfolding real_of sub
factor d W =
    let k = d / 2 ^ 12 in
    let k_lt : k < 2 ^ 52 = omega arith in
    let w = value_minus (whole 50) (neg (whole 10)) (50 * Q) (10 * Q) (of_units 50 (lit≤ tt)) (neg_value (whole 10) (10 * Q) (of_units 10 (lit≤ tt))) (lit≤ tt) (lit≤ tt) in
    let w_le : w.0 ≤ 41 * Q = b1 w.0 Q E (lit≤ tt) w.2.0 in
    let p = value_mul' (mul binary64 (whole k) tiny52) (add binary64 (whole 50) (neg (whole 10))) k (2 ^ 52) w.0 (pow_pos 52) (part_value k k_lt) w.1
    (b2 k w.0 (2 ^ 52) Q (pow_pos 52) (pow_pos 1074) k_lt w_le) in
    let p-le : p.0 ≤ 42 * Q = b3 k w.0 p.0 (2 ^ 52) Q E (pow_pos 52) (lit≤ tt) k_lt w_le p.2.0 in
    let t = value_add (mul binary64 (mul binary64 (whole k) tiny52) (add binary64 (whole 50) (neg (whole 10)))) (whole 10) p.0 (10 * Q) p.1 (of_units 10 (lit≤ tt)) (b4 p.0 Q (pow_pos 1074) p-le) in
    (t.0, t.1, b5 p.0 t.0 Q E (lit≤ tt) t.2.1)
  where
    b1 : (w q e : ℕ) → e ≤ q → w ≤ 50 * q - 10 * q + e → w ≤ 41 * q
    b1 w q e m h = omega arith

    b2 : (k w m q : ℕ) → 0 < m → 0 < q → k < m → w ≤ 41 * q → k * w < 256 * (m * q)
    b2 k w m q M K h a = let x : k * w ≤ m * (41 * q) = mul-le-mul (le_of_lt h) a in let y : 0 < m * q = mul-pos M K in omega arith

    b3 : (k w p m q e : ℕ) → 0 < m → e ≤ q → k < m → w ≤ 41 * q → p * m ≤ k * w + e * m → p ≤ 42 * q
    b3 k w p m q e M g h a t =
        let x : k * w ≤ m * (41 * q) = mul-le-mul (le_of_lt h) a in
        let y : e * m ≤ q * m = mul-le-mul_right m g in
        le_of_mul-le-mul_right {m = p} {n = 42 * q} {k = m} (omega arith) M

    b4 : (p q : ℕ) → 0 < q → p ≤ 42 * q → p + 10 * q < 256 * q
    b4 p q K h = omega arith

    b5 : (p t q e : ℕ) → e ≤ q → p + 10 * q ≤ t + e → 9 * q ≤ t
    b5 p t q e m h = omega arith

-- it is below 50
pub factor_below : (d y : ℕ) → d < 2 ^ 64 → Val (real_of (whole 10) (whole 50) d) y → y < 50 * Q
factor_below d y W v = go (lt (real_of (whole 10) (whole 50) d) (whole 50)) (lt_value (real_of (whole 10) (whole 50) d) (whole 50) y (50 * Q) v (of_units 50 (lit≤ tt))) (spike_below d W)
  where
    go : (b : Bool) → Ordered b y (50 * Q) → T b → y < 50 * Q
    go true o t = o
    go false o t = absurd t

-- the product, and the nanoseconds that it gives at most
module _ (n d : ℕ) (L : millisecond ≤ n) (H : n ≤ 180 * second) (W : d < 2 ^ 64) where
  abbrev X : Float
  X = mul binary64 (real_of (whole 10) (whole 50) d) (seconds n)

  product : (g : ℕ) × Val X g × (Mi ≤ g) × (g ≤ 10000 * Q)
  product =
      let y = factor d W in
      let s = secs_upto n (le_trans H (lit≤ tt)) in
      let x-is = mul_is (real_of (whole 10) (whole 50) d) (seconds n) y.0 Q s.0 Q (pow_pos 1074) (pow_pos 1074) y.1 s.1 in
      let y-le : y.0 ≤ 50 * Q = le_of_lt (factor_below d y.0 W y.1) in
      let s_le : s.0 ≤ 181 * Q = c1 s.0 n Q E H (lit≤ tt) s.2.0 in
      let s-ge : Q ≤ s.0 * 1001 = c2 s.0 n Q E L (lit≤ tt) s.2.1 in
      let g = round_at 14 false (y.0 * s.0) (Q * Q) (lit≤ tt) (mul-pos (pow_pos 1074) (pow_pos 1074)) (c3 y.0 s.0 Q (pow_pos 1074) y-le s_le) in (
        g.0,
        subst (λ (z : Float). Val z g.0) (sym x-is) g.1,
        c4 g.0 y.0 s.0 Q (2 ^ (1020 + 14)) Mi (pow_pos 1074) (lit≤ tt) (lit≤ tt) y.2 s-ge g.2.1,
        c5 g.0 y.0 s.0 Q (2 ^ (1020 + 14)) (pow_pos 1074) (lit≤ tt) y-le s_le g.2.0,
      )
    where
      c1 : (s n q e : ℕ) → n ≤ 180 * second → 2 * e ≤ q → s * second ≤ n * q + 2 * e * second → s ≤ 181 * q
      c1 s n q e h m t = let a : n * q ≤ 180 * second * q = mul-le-mul_right q h in omega arith

      c2 : (s n q e : ℕ) → millisecond ≤ n → e * 4000000 ≤ q → n * q ≤ s * second + 2 * e * second → q ≤ s * 1001
      c2 s n q e h m t = let a : millisecond * q ≤ n * q = mul-le-mul_right q h in omega arith

      c3 : (y s q : ℕ) → 0 < q → y ≤ 50 * q → s ≤ 181 * q → y * s < 2 ^ 14 * (q * q)
      c3 y s q K a b = let x : y * s ≤ 50 * q * (181 * q) = mul-le-mul a b in let z : 0 < q * q = mul-pos K K in omega arith

      c4 : (g y s q e m : ℕ) → 0 < q → e * 1000 ≤ q → m * 900 ≤ q → 9 * q ≤ y → q ≤ s * 1001 → y * s * q ≤ g * (q * q) + e * (q * q) → m ≤ g
      c4 g y s q e m K a b h k t =
          let x : 9 * q * q ≤ y * (s * 1001) = mul-le-mul h k in
          let z : 9 * q * q * q ≤ y * (s * 1001) * q = mul-le-mul_right q x in
          let u : q * 9 ≤ (g + e) * 1001 = le_of_mul-le-mul_right {k = q * q} (omega arith) (mul-pos K K) in
          omega arith

      c5 : (g y s q e : ℕ) → 0 < q → e ≤ q → y ≤ 50 * q → s ≤ 181 * q → g * (q * q) ≤ y * s * q + e * (q * q) → g ≤ 10000 * q
      c5 g y s q e K a h k t =
          let x : y * s * q ≤ 50 * q * (181 * q) * q = mul-le-mul_right q (mul-le-mul h k) in
          let u : g ≤ 9050 * q + e = le_of_mul-le-mul_right {k = q * q} (omega arith) (mul-pos K K) in
          omega arith

  pub spike_in_range : InRange X
  spike_in_range = let g = product in in_range_of X g.0 g.1 g.2 (go g.0 Q (pow_pos 1074) g.3)
    where
      go : (g q : ℕ) → 0 < q → g ≤ 10000 * q → g < 2 ^ 26 * q
      go g q K h = omega arith

  pub spike_most : nanos X ≤ 10000 * second
  spike_most = let g = product in nanos_upto X g.0 10000 g.1 g.3
