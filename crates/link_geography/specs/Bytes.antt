-- Document 01, geography (as `Geography::new` and `region_of`): what the digests of a plan are made of: the seed, a label and a number, little-endian.
use Rattle.std.specs.Prelude.{ℕ, List, [], ◌∷◌, ◌++◌}
use Rattle.math_word.specs.Word.{le4, le8}
use Rattle.hash_digest.specs.Blake3.{hash}

-- "host", "links"
abbrev pub host : List ℕ
host = 104 ∷ 111 ∷ 115 ∷ 116 ∷ []

abbrev pub links : List ℕ
links = 108 ∷ 105 ∷ 110 ∷ 107 ∷ 115 ∷ []

unfoldable pub host_bytes : (till : ℕ) → List ℕ
host_bytes till = host ++ le4 till

unfoldable pub links_bytes : List ℕ
links_bytes = links ++ le4 0

-- the digest of seed (8 bytes), label, index (4 bytes), as 8 words
unfoldable pub derive : (seed : ℕ) (label : List ℕ) (index : ℕ) → List ℕ
derive seed label index = hash (le8 seed ++ (label ++ le4 index))
