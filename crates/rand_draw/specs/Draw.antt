-- Document 01, draw rules: the whole range of n values, with draws of W bits.
use Rattle.std.specs.Prelude.{ℕ, ◌+◌, ◌-◌, ◌*◌, ◌/◌, ◌%◌, ◌^◌, Bool, true, false, List, leb, ltb}
use Rattle.rand_chacha8.specs.Chacha.{word_at}
use Rattle.rand_streams.specs.Streams.{word_pair}

abbrev pub choose : Bool → ℕ → ℕ → ℕ
choose true x y = x
choose false x y = y

-- whether the low half of a × n exceeds 2^W − n, so that a second draw is made
unfoldable pub again : (W n a : ℕ) → Bool
again W n a = ltb (2 ^ W - n) (a * n % 2 ^ W)

-- whether that low half plus the high half of b × n reaches 2^W
unfoldable pub carries : (W n a b : ℕ) → Bool
carries W n a b = leb (2 ^ W) (a * n % 2 ^ W + b * n / 2 ^ W)

-- the value, where the first draw is a and the second, if made, b
unfoldable pub whole_of : (W n a b : ℕ) → ℕ
whole_of W n a b = choose (again W n a) (choose (carries W n a b) (a * n / 2 ^ W + 1) (a * n / 2 ^ W)) (a * n / 2 ^ W)

-- how many draws it takes
unfoldable pub draws_of : (W n a : ℕ) → ℕ
draws_of W n a = choose (again W n a) 2 1

-- at a count of a stream: draws of 64 bits are two words each
unfoldable pub whole64_at : (key : List ℕ) (count n : ℕ) → ℕ
whole64_at key count n = whole_of 64 n (word_pair key count) (word_pair key (count + 2))

unfoldable pub words64_at : (key : List ℕ) (count n : ℕ) → ℕ
words64_at key count n = 2 * draws_of 64 n (word_pair key count)

unfoldable pub whole32_at : (key : List ℕ) (count n : ℕ) → ℕ
whole32_at key count n = whole_of 32 n (word_at key count) (word_at key (count + 1))

unfoldable pub words32_at : (key : List ℕ) (count n : ℕ) → ℕ
words32_at key count n = draws_of 32 n (word_at key count)
