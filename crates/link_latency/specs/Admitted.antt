-- Document 01, question 3: the latency, fraction and rates that an opening admits. No NaN is among them.
use Rattle.std.specs.Prelude.{Bool, false, ◌&&◌, ◌||◌, ℕ, ◌*◌, ◌≤◌, negsuc, T, leb, Float}
use Rattle.std.specs.Float.{fin}
use Rattle.std.specs.Float.Ieee.{le, eq}
use Rattle.math_float.specs.Float.{zero64, one64}
use Rattle.math_time.specs.Seconds.{second}

-- up to 60 s
abbrev pub longest_base : ℕ
longest_base = 60 * second

unfoldable pub latency_admitted : (ns : ℕ) → Bool
latency_admitted ns = leb ns longest_base

-- 0 (of either sign), or 2^-20 to 1
unfoldable pub fraction_admitted : Float → Bool
fraction_admitted f = eq f zero64 || (le (fin false 1 (negsuc 19)) f && le f one64)

-- 0 (of either sign) to 1
unfoldable pub rate_admitted : Float → Bool
rate_admitted r = le zero64 r && le r one64

-- far above what a plan's links give (65,536 bytes at 100,000,000 a second take 655,360 ns)
abbrev pub longest_transmission : ℕ
longest_transmission = 60 * second

-- what a latency is drawn from: a base (the set latency or a link's) and the fraction
pub record Admitted (b : ℕ) (f : Float) : Type 0 where
  pub base : b ≤ longest_base
  pub fraction : T (fraction_admitted f)
