-- Document 01, link streams: the key of the stream of a link.
use Rattle.std.specs.Prelude.{ℕ, List, [], ◌∷◌, ◌++◌}
use Rattle.math_word.specs.Word.{le4, le8}
use Rattle.hash_digest.specs.Blake3.{hash}

-- seed (8 bytes), "link", from, to (4 bytes each), all little-endian
unfoldable pub link_bytes : ℕ → ℕ → ℕ → List ℕ
link_bytes seed from to = le8 seed ++ ((108 ∷ 105 ∷ 110 ∷ 107 ∷ []) ++ (le4 from ++ le4 to))

-- the stream's key: the digest of these 20 bytes, as 8 little-endian words
unfoldable pub link_key : ℕ → ℕ → ℕ → List ℕ
link_key seed from to = hash (link_bytes seed from to)
