-- BLAKE3 in its default mode with a 32-byte output, specification sections 2.1 and 2.6: the tree over the chunks, and the hash.
use Rattle.std.specs.Prelude.{ℕ, zero, suc, ◌+◌, ◌*◌, ◌/◌, ◌%◌, ◌^◌, List, [], ◌∷◌, Bool, true, false, leb, take, drop, length, replicate, Result, Ok, Err}
use Rattle.hash_chunk.specs.Chunk.{chunk_bytes, root, chunk, parent}
use Rattle.hash_digest.specs.declared.Hashed.{Hashed}
use Rattle.hash_digest.specs.declared.TooLong.{TooLong}

abbrev pub pick : Bool → List ℕ → List ℕ → List ℕ
pick true a b = a
pick false a b = b

-- 2.1: the tree over up to 2^k chunks from chunk t on; where there are more than 2^(k-1), the left subtree has exactly 2^(k-1)
unfoldable pub tree : ℕ → List ℕ → ℕ → ℕ → List ℕ
tree zero s t e = chunk s t e
tree (suc k) s t e =
    pick (leb (length s) (chunk_bytes * 2 ^ k)) (tree k s t e)
    (parent (tree k (take (chunk_bytes * 2 ^ k) s) t 0) (tree k (drop (chunk_bytes * 2 ^ k) s) (t + 2 ^ k) 0) e)

-- 2.6: the hash of up to 128 chunks, as 8 words; the last compression has the flag ROOT
unfoldable pub hash : List ℕ → List ℕ
hash s = tree 7 s 0 root

-- the hash's 32 bytes: each word little-endian
unfoldable pub bytes_of : List ℕ → List ℕ
bytes_of [] = []
bytes_of (w ∷ ws) = w % 256 ∷ w / 256 % 256 ∷ w / 65536 % 256 ∷ w / 16777216 % 256 ∷ bytes_of ws

-- question 6: the longest input of a digest by itself
abbrev pub longest : ℕ
longest = 65700

abbrev pub answer : Bool → Hashed → Hashed → Hashed
answer true a b = a
answer false a b = b

abbrev pub too_long : Hashed
too_long = record { number = 6; words = replicate 8 0 }

-- what C gets of a digest
abbrev pub reply : Result (List ℕ) TooLong → Hashed
reply (Ok words) = record { number = 0; words = words }
reply (Err e) = too_long

-- the digest of the bytes s, or the number 6 and zeros where they are too many
unfoldable pub digest_of : List ℕ → Hashed
digest_of s = answer (leb (length s) longest) (record { number = 0; words = hash s }) too_long
