-- ChaCha with eight rounds, after D. J. Bernstein, "ChaCha, a variant of Salsa20".
-- The block counter has 64 bits, in words 12 and 13; the nonce has 64 bits, here 0, in words 14 and 15.
use Rattle.std.specs.Prelude.{ℕ, zero, suc, ◌/◌, ◌%◌, ◌^◌, List, [], ◌∷◌, get_or, set}
use Rattle.math_word.specs.Word.{add32, xor32, rotl32}
use Rattle.math_word.specs.declared.Quad.{Quad}

-- "The quarter-round", in two halves alike but for their rotations: a += b; d ^= a; d <<<= s; c += d; b ^= c; b <<<= t
unfoldable pub half_of : Quad → ℕ → ℕ → Quad
half_of q s t =
    let a = add32 q.a q.b in
    let d = rotl32 (xor32 q.d a) s in
    let c = add32 q.c d in
    let b = rotl32 (xor32 q.b c) t in
    record { a = a; b = b; c = c; d = d }

unfoldable pub quarter_of : Quad → Quad
quarter_of q = half_of (half_of q 16 12) 8 7

unfoldable pub put_quad : List ℕ → ℕ → ℕ → ℕ → ℕ → Quad → List ℕ
put_quad s a b c d q = set (set (set (set s a q.a) b q.b) c q.c) d q.d

unfoldable pub quarter_at : List ℕ → ℕ → ℕ → ℕ → ℕ → List ℕ
quarter_at s a b c d = put_quad s a b c d (quarter_of (record { a = get_or s a 0; b = get_or s b 0; c = get_or s c 0; d = get_or s d 0 }))

-- "The matrix": a round of the four columns
unfoldable pub columns : List ℕ → List ℕ
columns s = quarter_at (quarter_at (quarter_at (quarter_at s 0 4 8 12) 1 5 9 13) 2 6 10 14) 3 7 11 15

-- a round of the four diagonals
unfoldable pub diagonals : List ℕ → List ℕ
diagonals s = quarter_at (quarter_at (quarter_at (quarter_at s 0 5 10 15) 1 6 11 12) 2 7 8 13) 3 4 9 14

-- n times a round of columns and a round of diagonals
unfoldable pub double_rounds : ℕ → List ℕ → List ℕ
double_rounds zero s = s
double_rounds (suc n) s = diagonals (columns (double_rounds n s))

-- "expand 32-byte k", the key, the block's number, the nonce 0
unfoldable pub initial : List ℕ → ℕ → List ℕ
initial key n =
    0x61707865 ∷ 0x3320646e ∷ 0x79622d32 ∷ 0x6b206574 ∷ get_or key 0 0 ∷ get_or key 1 0 ∷ get_or key 2 0 ∷ get_or key 3 0
    ∷ get_or key 4 0 ∷ get_or key 5 0 ∷ get_or key 6 0 ∷ get_or key 7 0 ∷ n % 2 ^ 32 ∷ n / 2 ^ 32 ∷ 0 ∷ 0 ∷ []

-- the sums of two lists, place by place
unfoldable pub sums : List ℕ → List ℕ → List ℕ
sums [] t = []
sums (x ∷ s) [] = []
sums (x ∷ s) (y ∷ t) = add32 x y ∷ sums s t

-- block n of the stream: the matrix after eight rounds, plus the matrix before them
unfoldable pub block_of : List ℕ → ℕ → List ℕ
block_of key n = sums (double_rounds 4 (initial key n)) (initial key n)

-- the stream's word at a count: the blocks' words in order
unfoldable pub word_at : List ℕ → ℕ → ℕ
word_at key count = get_or (block_of key (count / 16)) (count % 16) 0
