-- Document 01, 'What changes shape' (maps, heap and rings become tables): a table of rows of S words each, whatever a row is: `read` reads the row at the head of a list of words.
use Rattle.std.specs.Prelude.{List, [], ◌∷◌, ◌++◌, Bool, true, false, ◌&&◌, ℕ, zero, suc, ◌*◌, length, drop}

-- the first n rows of a table
abbrev pub rows : {R : Type 0} → ℕ → (List ℕ → R) → List ℕ → ℕ → List R
rows S read ws zero = []
rows S read ws (suc n) = read ws ∷ rows S read (drop S ws) n

-- every row passes a test
abbrev pub all_of : {R : Type 0} → (R → Bool) → List R → Bool
all_of q [] = true
all_of q (r ∷ rs) = q r && all_of q rs

abbrev pub pick : {A : Type 0} → Bool → A → A → A
pick true a b = a
pick false a b = b

-- the rows that pass a test, in their order
abbrev pub keep : {R : Type 0} → (R → Bool) → List R → List R
keep q [] = []
keep q (r ∷ rs) = pick (q r) (r ∷ keep q rs) (keep q rs)

abbrev pub flat : {R : Type 0} → (R → List ℕ) → List R → List ℕ
flat words [] = []
flat words (r ∷ rs) = words r ++ flat words rs

-- the table once the rows up to i are passed: those of them that q keeps, and then what was there
unfoldable pub kept : {R : Type 0} (S : ℕ) (read : List ℕ → R) (words : R → List ℕ) (q : R → Bool) → List ℕ → ℕ → List ℕ
kept S read words q ws i = flat words (keep q (rows S read ws i)) ++ drop (length (keep q (rows S read ws i)) * S) ws
