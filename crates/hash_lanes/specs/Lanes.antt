-- BLAKE3, specification sections 2.4 and 2.5, four subtrees at a time: four lanes side by side, one for each: word i of lane l stands at 4 i + l.
use Rattle.std.specs.Prelude.{ℕ, zero, suc, ◌+◌, ◌*◌, ◌^◌, List, [], ◌∷◌, get_or, take, drop}
use Rattle.hash_chunk.specs.Chunk.{chunk_bytes, chunk, parent}

-- a lane's chaining value, of 8 words
unfoldable pub lane8 : List ℕ → ℕ → List ℕ
lane8 xs l = get_or xs (0 + l) 0 ∷ get_or xs (4 + l) 0 ∷ get_or xs (8 + l) 0 ∷ get_or xs (12 + l) 0 ∷ get_or xs (16 + l) 0 ∷ get_or xs (20 + l) 0 ∷ get_or xs (24 + l) 0 ∷ get_or xs (28 + l) 0 ∷ []

-- the tree over the first 2^k chunks of s, all whole, from chunk t on; not the root
unfoldable pub full : ℕ → List ℕ → ℕ → List ℕ
full zero s t = chunk (take chunk_bytes s) t 0
full (suc k) s t = parent (full k s t) (full k (drop (chunk_bytes * 2 ^ k) s) (t + 2 ^ k)) 0

-- part l of s, of 2^k chunks
unfoldable pub full_at : ℕ → List ℕ → ℕ → ℕ → List ℕ
full_at k s t l = full k (drop (chunk_bytes * 2 ^ k * l) s) (t + 2 ^ k * l)

-- the tree over four such parts
unfoldable pub whole_of : ℕ → List ℕ → ℕ → ℕ → List ℕ
whole_of k s t e = parent (parent (full_at k s t 0) (full_at k s t 1) 0) (parent (full_at k s t 2) (full_at k s t 3) 0) e
