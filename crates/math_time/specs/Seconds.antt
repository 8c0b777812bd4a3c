-- Document 01, latency: seconds in f64, and the nearest nanosecond with ties to even.
use Prim.Native.Nat.{ℕ, ◌*◌, ◌/◌, ◌%◌, compare}
use Rattle.std.specs.Prelude.{false, pos, negsuc, T, Float}
use Rattle.std.specs.Float.{fin, binary64}
use Rattle.std.specs.Float.Ieee.{add, mul, div, le, lt, of_int, nearest}
use Rattle.std.specs.Float.Ieee.Positive.{num, den}

-- in nanoseconds
abbrev pub second : ℕ
second = 1000000000

abbrev pub millisecond : ℕ
millisecond = 1000000

-- a whole number as f64
abbrev pub whole : ℕ → Float
whole n = of_int binary64 (pos n)

-- whole seconds plus nanoseconds / 10^9, each operation rounded once
unfoldable pub seconds : ℕ → Float
seconds n = add binary64 (whole (n / second)) (div binary64 (whole (n % second)) (whole second))

-- a / b to the nearest whole number, ties to even
abbrev pub nearest_even : ℕ → ℕ → ℕ
nearest_even a b = nearest (a / b) (compare (a % b * 2) b)

-- the nearest nanosecond of x seconds: x's exact value num x / den x, times 10^9
abbrev pub nanos : Float → ℕ
nanos x = nearest_even (num x * second) (den x)

-- n nanoseconds, in seconds, times y
unfoldable pub times : ℕ → Float → ℕ
times n y = nanos (mul binary64 y (seconds n))

-- the float nearest to 0.001, and 2^26
abbrev pub milli : Float
milli = fin false 1152921504606847 (negsuc 59)

abbrev pub top : Float
top = fin false 1 (pos 26)

-- the seconds that become nanoseconds here: 0.001 and above, below 2^26; so neither NaN nor infinite
abbrev pub InRange : Float → Type 0
InRange x = T (le milli x) × T (lt x top)
