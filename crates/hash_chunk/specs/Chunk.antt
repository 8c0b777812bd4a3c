-- BLAKE3, specification sections 2.4 and 2.5: chaining values of chunks and of parent nodes.
use Rattle.std.specs.Prelude.{ℕ, zero, suc, ◌+◌, ◌-◌, ◌/◌, List, [], ◌∷◌, ◌++◌, take, drop, length}
use Rattle.math_word.specs.Word.{le_word}
use Rattle.hash_compress.specs.Compress.{iv, compressed}

-- 2.2, table 3: flags
abbrev pub chunk_start : ℕ
chunk_start = 1

abbrev pub chunk_end : ℕ
chunk_end = 2

abbrev pub parent_node : ℕ
parent_node = 4

abbrev pub root : ℕ
root = 8

-- 2.1: bytes of a block and of a chunk
abbrev pub block_bytes : ℕ
block_bytes = 64

abbrev pub chunk_bytes : ℕ
chunk_bytes = 1024

-- the 16 words of a block
unfoldable pub words_of : List ℕ → List ℕ
words_of s =
    le_word s 0 ∷ le_word s 4 ∷ le_word s 8 ∷ le_word s 12 ∷ le_word s 16 ∷ le_word s 20 ∷ le_word s 24 ∷ le_word s 28
    ∷ le_word s 32 ∷ le_word s 36 ∷ le_word s 40 ∷ le_word s 44 ∷ le_word s 48 ∷ le_word s 52 ∷ le_word s 56 ∷ le_word s 60 ∷ []

-- 2.4: the blocks of chunk t: k whole ones, then the last. h is the chaining value so far; d is CHUNK_START before the first
-- block, else 0; e is ROOT where the chunk is the root node, else 0
unfoldable pub blocks : ℕ → List ℕ → List ℕ → ℕ → ℕ → ℕ → List ℕ
blocks zero h s t d e = compressed h (words_of s) t (length s) (d + chunk_end + e)
blocks (suc k) h s t d e = blocks k (compressed h (words_of (take block_bytes s)) t block_bytes d) (drop block_bytes s) t 0 e

-- the chaining value of chunk t, the bytes s
unfoldable pub chunk : List ℕ → ℕ → ℕ → List ℕ
chunk s t e = blocks ((length s - 1) / block_bytes) iv s t chunk_start e

-- 2.5: the chaining value of a parent node, from those of its children
unfoldable pub parent : List ℕ → List ℕ → ℕ → List ℕ
parent l r e = compressed iv (l ++ r) 0 block_bytes (parent_node + e)
