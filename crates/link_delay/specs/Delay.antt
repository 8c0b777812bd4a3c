-- Document 02, M-106: without a spike, the latency before transmission lies less than 1 ns from the greater of 1 ms and base plus the exact jitter.
-- Over whole numbers: the fraction is read from its 64 bits, and both sides are counted in parts of a nanosecond, 2^52 × 2^places of them.
use Rattle.std.specs.Prelude.{◌≡◌, ◌⊎◌, true, false, List, ℕ, zero, suc, ◌+◌, ◌-◌, ◌*◌, ◌/◌, ◌%◌, ◌^◌, ◌≤◌, ◌<◌, max, Float}
use Rattle.std.specs.Float.{binary64}
use Rattle.std.specs.Float.Ieee.{of_bits}
use Rattle.math_time.specs.Seconds.{millisecond}
use Rattle.rand_streams.specs.Streams.{word_pair}
use Rattle.rand_draw.specs.Fraction.{hits_at}
use Rattle.link_latency.specs.Latency.{delay_of, latency_at, spike_count}
use Rattle.link_latency.specs.Admitted.{longest_base, fraction_admitted}

-- ---- The fraction, by its bits: the sign, 11 bits of an exponent's field, 52 digits

abbrev pub field : (bits : ℕ) → ℕ
field bits = bits % 2 ^ 63 / 2 ^ 52

-- a digit stands in front of the 52, save where the field is 0, which counts as 1
abbrev pub front : (field : ℕ) → ℕ
front zero = 0
front (suc x) = 2 ^ 52

abbrev pub behind : (field : ℕ) → ℕ
behind zero = 1074
behind (suc x) = 1074 - x

-- its exact binary value is digits × 2^-places
unfoldable pub digits : (bits : ℕ) → ℕ
digits bits = front (field bits) + bits % 2 ^ 52

unfoldable pub places : (bits : ℕ) → ℕ
places bits = behind (field bits)

-- the fractions that an opening admits: 0 of either sign, and 2^-20 to 1
abbrev pub InOpening : (bits : ℕ) → Type 0
InOpening bits = (digits bits ≡ 0) ⊎ ((bits < 2 ^ 63) × (2 ^ places bits ≤ digits bits * 2 ^ 20) × (digits bits ≤ 2 ^ places bits))

-- ---- The exact delay, in parts of a nanosecond

unfoldable pub parts : (bits : ℕ) → ℕ
parts bits = 2 ^ 52 * 2 ^ places bits

-- base × (1 + fraction × 2k / 2^52)
unfoldable pub raised : (base bits k : ℕ) → ℕ
raised base bits k = base * parts bits + base * digits bits * (2 * k)

-- base × fraction
unfoldable pub lowered : (base bits : ℕ) → ℕ
lowered base bits = base * digits bits * 2 ^ 52

-- the shortest delay: 1 ms
abbrev pub least : ℕ
least = millisecond

-- the greater of 1 ms and base + base × fraction × (2k − 2^52) / 2^52
unfoldable pub exact : (base bits k : ℕ) → ℕ
exact base bits k = max (least * parts bits) (raised base bits k - lowered base bits)

-- ---- The statement

-- the latency before transmission, without a spike, at a 64-bit draw
abbrev pub delayed : (base bits d : ℕ) → ℕ
delayed base bits d = delay_of base (of_bits binary64 bits) d

-- 1 ns
unfoldable pub bound : (bits : ℕ) → ℕ
bound bits = parts bits

-- r nanoseconds lie less than that from it; and `exact` subtracts no more than there is
pub record Close (base bits k r : ℕ) : Type 0 where
  pub not_over : r * parts bits < exact base bits k + bound bits
  pub not_under : exact base bits k < r * parts bits + bound bits
  pub no_cut : lowered base bits ≤ raised base bits k

pub record TrueDelay : Type 0 where
  -- the bits that `InOpening` names are those that question 3 admits
  pub admitted : (bits : ℕ) → InOpening bits → fraction_admitted (of_bits binary64 bits) ≡ true
  pub all_admitted : (bits : ℕ) → fraction_admitted (of_bits binary64 bits) ≡ true → InOpening bits
  -- for every base up to 60 s, every admitted fraction and every 64-bit draw, whose top 52 bits are k
  pub every_draw : (base bits d : ℕ) → base ≤ longest_base → InOpening bits → d < 2 ^ 64
      → Close base bits (d / 2 ^ 12) (delayed base bits d)
  -- a latency on a stream, where no spike hits, is such a delay and the transmission
  pub on_stream : (key : List ℕ) (count base bits : ℕ) (rate : Float) (transmission : ℕ) → base ≤ longest_base → InOpening bits
      → hits_at key (spike_count count base (of_bits binary64 bits)) rate ≡ false
      → (r : ℕ) × (latency_at key count base (of_bits binary64 bits) rate transmission ≡ r + transmission) × Close base bits (word_pair key count / 2 ^ 12) r
  -- where the fraction or the base is 0 there is no jitter: the delay is the base itself, or 1 ms
  pub no_jitter : (base bits d : ℕ) → base ≤ longest_base → InOpening bits → d < 2 ^ 64 → (base ≡ 0) ⊎ (digits bits ≡ 0)
      → delayed base bits d ≡ max least base
