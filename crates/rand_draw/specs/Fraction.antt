-- Document 01, draw rules: the fraction of a 64-bit draw, and a hit against a rate.
use Rattle.std.specs.Prelude.{Bool, false, cond, ◌&&◌, List, ℕ, ◌/◌, ◌^◌, pos, negsuc, Float}
use Rattle.std.specs.Float.{fin, binary64}
use Rattle.std.specs.Float.Ieee.{mul, of_int, lt}
use Rattle.math_float.specs.Float.{zero64}
use Rattle.rand_streams.specs.Streams.{word_pair}

-- 2^-53
abbrev pub tiny53 : Float
tiny53 = fin false 1 (negsuc 52)

-- the top 53 bits of the draw, times 2^-53
unfoldable pub fraction : ℕ → Float
fraction d = mul binary64 (of_int binary64 (pos (d / 2 ^ 11))) tiny53

-- at a count of a stream
unfoldable pub fraction_at : (key : List ℕ) (count : ℕ) → Float
fraction_at key count = fraction (word_pair key count)

-- a draw is made only where the rate is above 0, and hits when it is below the rate; so NaN is no hit and no draw
unfoldable pub hits_at : (key : List ℕ) (count : ℕ) (rate : Float) → Bool
hits_at key count rate = lt zero64 rate && lt (fraction_at key count) rate

-- the words that it takes
unfoldable pub hit_words : (rate : Float) → ℕ
hit_words rate = cond (lt zero64 rate) 2 0
