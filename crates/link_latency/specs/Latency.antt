-- Document 01, latency: `sample_latency`, over the words of a stream.
use Rattle.std.specs.Prelude.{Bool, cond, List, ℕ, ◌+◌, ◌*◌, Float}
use Rattle.std.specs.Float.{binary64}
use Rattle.std.specs.Float.Ieee.{add, mul, neg, lt}
use Rattle.math_float.specs.Float.{zero64}
use Rattle.rand_streams.specs.Streams.{word_pair}
use Rattle.math_time.specs.Seconds.{second, millisecond, whole, seconds, nanos, times, milli}
use Rattle.rand_draw.specs.Real.{real_of, real_at}
use Rattle.rand_draw.specs.Fraction.{hits_at, hit_words}

-- j = seconds × fraction; jitter is drawn in −j..j, and not drawn if j is 0
unfoldable pub jitter_range : (s fraction : Float) → Float
jitter_range s fraction = mul binary64 s fraction

unfoldable pub jitters : (s fraction : Float) → Bool
jitters s fraction = lt zero64 (jitter_range s fraction)

-- the jitter, where the 64-bit draw, if made, is d
unfoldable pub jitter_of : (s fraction : Float) (d : ℕ) → Float
jitter_of s fraction d = cond (jitters s fraction) (real_of (neg (jitter_range s fraction)) (jitter_range s fraction) d) zero64

-- the words that it takes
unfoldable pub jitter_words : (s fraction : Float) → ℕ
jitter_words s fraction = cond (jitters s fraction) 2 0

-- the sum is at least 0.001
unfoldable pub floored : Float → Float
floored x = cond (lt x milli) milli x

-- and becomes the nearest nanosecond: the latency before transmission
unfoldable pub delay_of : (base : ℕ) (fraction : Float) (d : ℕ) → ℕ
delay_of base fraction d = nanos (floored (add binary64 (seconds base) (jitter_of (seconds base) fraction d)))

-- transmission is added afterwards
unfoldable pub unspiked : (base : ℕ) (fraction : Float) (transmission d : ℕ) → ℕ
unspiked base fraction transmission d = delay_of base fraction d + transmission

-- a spike that hits draws from 10..50, and the whole, in seconds again, times that draw becomes nanoseconds in the same way
unfoldable pub spike_at : (key : List ℕ) (count : ℕ) → Float
spike_at key count = real_at key count (whole 10) (whole 50)

-- where the spike's draw stands
unfoldable pub spike_count : (count base : ℕ) (fraction : Float) → ℕ
spike_count count base fraction = count + jitter_words (seconds base) fraction

-- the latency at a count of a stream
unfoldable pub latency_at : (key : List ℕ) (count base : ℕ) (fraction spike_rate : Float) (transmission : ℕ) → ℕ
latency_at key count base fraction spike_rate transmission =
    cond (hits_at key (spike_count count base fraction) spike_rate)
    (times (unspiked base fraction transmission (word_pair key count)) (spike_at key (spike_count count base fraction + 2)))
    (unspiked base fraction transmission (word_pair key count))

-- the words that it takes
unfoldable pub latency_words : (key : List ℕ) (count base : ℕ) (fraction spike_rate : Float) → ℕ
latency_words key count base fraction spike_rate =
    jitter_words (seconds base) fraction + hit_words spike_rate + cond (hits_at key (spike_count count base fraction) spike_rate) 2 0

-- no latency is under 1,000,000 ns; before transmission none is over 120 s, and with a spike none over 10,000 s
abbrev pub shortest : ℕ
shortest = millisecond

abbrev pub longest_delay : ℕ
longest_delay = 120 * second

abbrev pub longest : ℕ
longest = 10000 * second
