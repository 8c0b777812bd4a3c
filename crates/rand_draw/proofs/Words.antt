-- a word of a stream is below 2^32, a 64-bit draw below 2^64, and a whole range's value below n
use Prim.Native.Nat.{ℕ, zero, suc, ◌+◌, ◌-◌, ◌*◌, ◌/◌, ◌%◌, ◌^◌, ◌<◌, ◌≤◌}
use mathlib.Core.Path.{◌≡◌, refl, sym, subst}
use mathlib.Core.Bool.{Bool, true, false}
use mathlib.Core.List.{List, [], ◌∷◌}
use native.Mathlib.Nat.{mod-lt}
use native.Mathlib.Omega.{arith}
use lib.Dec.{T, lit<, ltb→lt}
use lib.ListN.{get_or}
use lib.Pow.{pow_pos}
use Rattle.math_word.specs.Word.{add32}
use Rattle.rand_chacha8.specs.Chacha.{sums, double_rounds, initial, block_of, word_at}
use Rattle.rand_streams.specs.Streams.{word_pair}
use Rattle.rand_draw.specs.Draw.{choose, again, carries, whole_of, whole64_at}
use Rattle.rand_draw.proofs.Laws.{high_below, high_room}

add_small : (x y : ℕ) → add32 x y < 2 ^ 32
unfolding add32
add_small x y = mod-lt (x + y) (pow_pos 32)

sums_small : (s t : List ℕ) (i : ℕ) → get_or (sums s t) i 0 < 2 ^ 32
unfolding sums
sums_small [] t i = lit< tt
sums_small (x ∷ s) [] i = lit< tt
sums_small (x ∷ s) (y ∷ t) zero = add_small x y
sums_small (x ∷ s) (y ∷ t) (suc i) = sums_small s t i

pub word_small : (key : List ℕ) (count : ℕ) → word_at key count < 2 ^ 32
unfolding word_at block_of
word_small key count = sums_small (double_rounds 4 (initial key (count / 16))) (initial key (count / 16)) (count % 16)

pub pair_small : (key : List ℕ) (count : ℕ) → word_pair key count < 2 ^ 64
unfolding word_pair
pair_small key count = omega (arith, word_small key count, word_small key (count + 1))

past : (W n a : ℕ) → again W n a ≡ true → 2 ^ W - n < a * n % 2 ^ W
unfolding again
past W n a e = ltb→lt (2 ^ W - n) (a * n % 2 ^ W) (subst T (sym e) tt)

pub whole_below : (W n a b : ℕ) → 0 < n → n ≤ 2 ^ W → a < 2 ^ W → whole_of W n a b < n
unfolding whole_of
whole_below W n a b p q r = go (again W n a) refl (carries W n a b)
  where
    go : (x : Bool) → again W n a ≡ x → (y : Bool) → choose x (choose y (a * n / 2 ^ W + 1) (a * n / 2 ^ W)) (a * n / 2 ^ W) < n
    go false e y = high_below (2 ^ W) n a p r
    go true e false = high_below (2 ^ W) n a p r
    go true e true = high_room (2 ^ W) n a q r (past W n a e)

pub whole64_below : (key : List ℕ) (count n : ℕ) → 0 < n → n ≤ 2 ^ 64 → whole64_at key count n < n
unfolding whole64_at
whole64_below key count n p q = whole_below 64 n (word_pair key count) (word_pair key (count + 2)) p q (pair_small key count)
