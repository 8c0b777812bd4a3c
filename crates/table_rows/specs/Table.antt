-- Document 01, 'What changes shape' (maps, heap and rings become tables): a record as a row of words, the rows of a table, and rows written over its front.
use Rattle.std.specs.Prelude.{◌≡◌, List, ◌++◌, Bool, ℕ, ◌*◌, ◌≤◌, ◌<◌, length, take, drop}
use Rattle.table_rows.specs.Rows.{rows, flat}

-- how a record stands in a row: its width, the record at the head of a list of words, and a record's words
pub record Form (R : Type 0) : Type 0 where
  pub width : ℕ
  pub read : List ℕ → R
  pub words : R → List ℕ

-- each way undoes the other
pub record Exact {R : Type 0} (f : Form R) : Type 0 where
  pub long : (r : R) → length (f.words r) ≡ f.width
  pub back : (r : R) (m : List ℕ) → f.read (f.words r ++ m) ≡ r
  pub whole : (l : List ℕ) → f.width ≤ length l → f.words (f.read l) ≡ take f.width l

-- the first n rows of a table
abbrev pub rows_of : {R : Type 0} → Form R → List ℕ → ℕ → List R
rows_of f ws n = rows f.width f.read ws n

-- the row at row i
abbrev pub row_of : {R : Type 0} → Form R → List ℕ → ℕ → R
row_of f ws i = f.read (drop (i * f.width) ws)

-- a call at each of the first n rows, whose results `post` tells of, answers whether the row passes q
abbrev pub Tests : {R : Type 0} → Form R → (post : R → Bool → Type 0) → (q : R → Bool) → List ℕ → ℕ → Type 0
Tests f post q ws n = (k : ℕ) (b : Bool) → k < n → post (row_of f ws k) b → b ≡ q (row_of f ws k)

-- rows over the front of a table; what lies behind them stays
unfoldable pub over : {R : Type 0} → Form R → List R → List ℕ → List ℕ
over f rs ws = flat f.words rs ++ drop (length rs * f.width) ws
