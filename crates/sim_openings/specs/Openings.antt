-- What the fields of an opening's line say: words `key=value`, in any order; the first word of a key counts.
use Rattle.std.specs.Prelude.{ℕ, cond, ◌==◌, List, [], ◌∷◌, length, take, drop, Option, Some, None, option_and_then, eqb}
use Rattle.std.specs.Cmp.Lexicographic.{pointwise}
use Rattle.sim_spelling.specs.Spelling.{words_in, number_of, bits_of}

-- what stands behind a sign `=` (61)
abbrev pub behind_sign : List ℕ → Option (List ℕ)
behind_sign [] = None
behind_sign (b ∷ v) = cond (b == 61) (Some v) None

-- the value of a word that begins with the key and a sign
unfoldable pub value_in : (key word : List ℕ) → Option (List ℕ)
value_in key word = cond (pointwise eqb (take (length key) word) key) (behind_sign (drop (length key) word)) None

-- the first of two that is there
abbrev pub first_of : Option (List ℕ) → Option (List ℕ) → Option (List ℕ)
first_of None o = o
first_of (Some v) o = Some v

-- the value of the first of the words that has the key
unfoldable pub field_in : (key : List ℕ) → List (List ℕ) → Option (List ℕ)
field_in key [] = None
field_in key (w ∷ ws) = first_of (value_in key w) (field_in key ws)

-- the number, and the bits, that a line's field stands for
unfoldable pub number_in : (line key : List ℕ) → Option ℕ
number_in line key = option_and_then (number_of 10) (field_in key (words_in line))

unfoldable pub rate_in : (line key : List ℕ) → Option ℕ
rate_in line key = option_and_then bits_of (field_in key (words_in line))
