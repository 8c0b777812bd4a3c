-- The least and the most that `nanos` gives: from 0.001 s a millisecond, up to p s p seconds.
use mathlib.Core.Path.{◌≡◌, ap}
use Prim.Native.Nat.{Ordering}
use Prim.Native.Nat.{ℕ, ◌*◌, ◌/◌, ◌%◌, ◌^◌, ◌≤◌, compare}
use native.Mathlib.Nat.{le_trans, le_of_eq, le_of_lt, mul-one, mul-le-mul_right, mul_right_comm, zero-lt-suc}
use native.Mathlib.Omega.{arith}
use lib.Dec.{T}
use lib.Ieee.{Float, le, nearest}
use lib.Ieee.Nearest.{closest, closest_mono}
use lib.Ieee.Positive.{num, den, den_pos, positive, le→cross}
use Rattle.math_time.specs.Seconds.{second, millisecond, nanos, milli, InRange}
use Rattle.math_time.proofs.Rounding.{is_lt}
use Rattle.math_time.proofs.Pattern.{within}

-- a whole number is its own nearest
own : (n : ℕ) → closest n 1 ≤ n
own n =
    let e : compare (n % 1 * 2) 1 ≡ Ordering.lt = is_lt (n % 1 * 2) 1 (omega arith) in
    le_trans (le_of_eq (ap (nearest (n / 1)) e)) (omega arith)

pub nanos_most : (x : Float) (p : ℕ) → num x ≤ p * den x → nanos x ≤ p * second
nanos_most x p h =
    le_trans (closest_mono (num x * second) (den x) (p * second) 1 (den_pos x) (zero-lt-suc 0)
    (le_trans (le_of_eq (mul-one (num x * second))) (le_trans (mul-le-mul_right second h) (le_of_eq (mul_right_comm p (den x) second))))) (own (p * second))

pub nanos_least : (x : Float) → T (positive x) → T (le milli x) → millisecond ≤ nanos x
nanos_least x p h =
    closest_mono (num milli * second) (den milli) (num x * second) (den x) (den_pos milli) (den_pos x)
    (le_trans (le_of_eq (mul_right_comm (num milli) second (den x))) (le_trans (mul-le-mul_right second (le→cross milli x tt p h)) (le_of_eq (mul_right_comm (num x) (den milli) second))))

-- of every x that is in range
pub in_limits : (x : Float) → InRange x → (millisecond ≤ nanos x) × (nanos x ≤ 2 ^ 26 * second)
in_limits x h =
    let w = within x h.0 h.1 in
    (nanos_least x w.0 h.0, nanos_most x (2 ^ 26) (le_of_lt w.2))
