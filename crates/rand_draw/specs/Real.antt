-- Document 01, draw rules: the real range low..high.
use Rattle.std.specs.Prelude.{false, List, ℕ, ◌/◌, ◌^◌, pos, negsuc, Float}
use Rattle.std.specs.Float.{fin, binary64}
use Rattle.std.specs.Float.Ieee.{add, sub, mul, of_int}
use Rattle.rand_streams.specs.Streams.{word_pair}

-- 2^-52
abbrev pub tiny52 : Float
tiny52 = fin false 1 (negsuc 51)

-- v, the top 52 bits of the draw times 2^-52, times high − low, plus low; each operation rounded once
unfoldable pub real_of : (low high : Float) (draw : ℕ) → Float
real_of low high d = add binary64 (mul binary64 (mul binary64 (of_int binary64 (pos (d / 2 ^ 12))) tiny52) (sub binary64 high low)) low

-- at a count of a stream
unfoldable pub real_at : (key : List ℕ) (count : ℕ) (low high : Float) → Float
real_at key count low high = real_of low high (word_pair key count)
