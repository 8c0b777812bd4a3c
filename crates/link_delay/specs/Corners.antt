-- Corners of M-106: bases 0, 1 ns, 1 ms and 60 s; fractions 2^-20, 0.1, 1 and the largest below 1; draws k = 0, 2^51 and 2^52 − 1. The nanoseconds were
-- worked out outside, in Python, by IEEE 754's operations and exact fractions. Of 60 s, 2^-20 and k = 0 the exact delay ends in .541: no bound under 0.458 holds.
use Rattle.std.specs.Prelude.{◌≡◌, Bool, true, ◌&&◌, List, [], ◌∷◌, ℕ, ◌+◌, ◌-◌, ◌*◌, ◌^◌, ltb}
use Rattle.std.specs.Float.{binary64}
use Rattle.std.specs.Float.Ieee.{of_bits}
use Rattle.math_time.specs.Seconds.{second, millisecond}
use Rattle.link_latency.specs.Admitted.{fraction_admitted}
use Rattle.link_delay.specs.Delay.{delayed, parts, exact, bound}

-- base, fraction, and the nanoseconds at each of the three draws
pub data Corner : Type 0 where
  at : (base bits low middle high : ℕ) → Corner

abbrev pub table : List Corner
table =
    at 0 0x3eb0000000000000 1000000 1000000 1000000
    ∷ at 0 0x3fb999999999999a 1000000 1000000 1000000
    ∷ at 0 0x3ff0000000000000 1000000 1000000 1000000
    ∷ at 0 0x3fefffffffffffff 1000000 1000000 1000000
    ∷ at 1 0x3eb0000000000000 1000000 1000000 1000000
    ∷ at 1 0x3fb999999999999a 1000000 1000000 1000000
    ∷ at 1 0x3ff0000000000000 1000000 1000000 1000000
    ∷ at 1 0x3fefffffffffffff 1000000 1000000 1000000
    ∷ at millisecond 0x3eb0000000000000 1000000 1000000 1000001
    ∷ at millisecond 0x3fb999999999999a 1000000 1000000 1100000
    ∷ at millisecond 0x3ff0000000000000 1000000 1000000 2000000
    ∷ at millisecond 0x3fefffffffffffff 1000000 1000000 2000000
    ∷ at (60 * second) 0x3eb0000000000000 59999942780 60000000000 60000057220
    ∷ at (60 * second) 0x3fb999999999999a 54000000000 60000000000 66000000000
    ∷ at (60 * second) 0x3ff0000000000000 1000000 60000000000 120000000000
    ∷ at (60 * second) 0x3fefffffffffffff 1000000 60000000000 120000000000
    ∷ []

-- ---- What the definitions say

abbrev pub middle_draw : ℕ
middle_draw = 2 ^ 51

abbrev pub last_draw : ℕ
last_draw = 2 ^ 52 - 1

-- a 64-bit draw whose top 52 bits are k
abbrev pub delay_at : (base bits k : ℕ) → ℕ
delay_at base bits k = delayed base bits (k * 2 ^ 12)

abbrev pub delays : List Corner → List ℕ
delays [] = []
delays (at base bits low middle high ∷ cs) = delay_at base bits 0 ∷ delay_at base bits middle_draw ∷ delay_at base bits last_draw ∷ delays cs

abbrev pub says : List Corner → List ℕ
says [] = []
says (at base bits low middle high ∷ cs) = low ∷ middle ∷ high ∷ says cs

-- `Close`'s two inequalities, computed
abbrev pub close_to : (base bits k r : ℕ) → Bool
close_to base bits k r = ltb (r * parts bits) (exact base bits k + bound bits) && ltb (exact base bits k) (r * parts bits + bound bits)

abbrev pub all_close : List Corner → Bool
all_close [] = true
all_close (at base bits low middle high ∷ cs) =
    fraction_admitted (of_bits binary64 bits) && close_to base bits 0 low && close_to base bits middle_draw middle && close_to base bits last_draw high && all_close cs

pub record Corners : Type 0 where
  pub as_worked_out : delays table ≡ says table
  pub are_close : all_close table ≡ true
