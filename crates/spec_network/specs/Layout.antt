-- Document 01, 'The book', marks (till, id), waiting copies and rings. The book keeps them plain: a till's marks as their ids, rising; copies by ordered insertion;
-- a ring for each type and scope. The tables keep them as `table_marks`, `table_waiting` and `table_rings` lay them out. What depends on it
-- stands here; every decision is defined once, on either, and `spec_book` proves that both decide alike.
use Rattle.std.specs.Prelude.{ℕ, Bool, cond, not, ◌&&◌, List, [], ◌∷◌, eqb, ltb, length, get_or, set, replicate}
use Rattle.table_rows.specs.Rows.{keep}
use Rattle.table_marks.specs.Marks.{member, found, placed, removed, listed}
use Rattle.table_waiting.specs.Waiting.{ordered, insert_copy}
use Rattle.table_waiting.specs.declared.Copy.{Copy}
use Rattle.table_rings.specs.Rings.{scopes, number_of}
use Rattle.table_rings.specs.declared.Entry.{Entry}

pub data Layout : Type 0 where
  plain table : Layout

-- the marks of a till; the rings
abbrev pub Marks : Layout → Type 0
Marks plain = List ℕ
Marks table = List ℕ

abbrev pub Rings : Layout → Type 0
Rings plain = (kind scope : ℕ) → List Entry
Rings table = List (List Entry)

-- ---- Plain marks

-- one id more, at its place
abbrev pub inserted : ℕ → List ℕ → List ℕ
inserted i [] = i ∷ []
inserted i (j ∷ ids) = cond (ltb j i) (j ∷ inserted i ids) (i ∷ j ∷ ids)

-- the ids but i
abbrev pub without : ℕ → List ℕ → List ℕ
without i ids = keep (λ (j : ℕ). not (eqb i j)) ids

-- ---- Marks kept either way

abbrev pub no_marks : (k : Layout) → Marks k
no_marks plain = []
no_marks table = []

-- does the mark of id i stand
abbrev pub stands : (k : Layout) → ℕ → Marks k → Bool
stands plain i ids = member i ids
stands table i ids = found i ids

-- one mark more, and one less
abbrev pub with_mark : (k : Layout) → ℕ → Marks k → Marks k
with_mark plain i ids = inserted i ids
with_mark table i ids = placed i ids

abbrev pub without_mark : (k : Layout) → ℕ → Marks k → Marks k
without_mark plain i ids = without i ids
without_mark table i ids = removed i ids

-- the slots that they take
abbrev pub slots_of : (k : Layout) → Marks k → ℕ
slots_of plain ids = length ids
slots_of table ids = length ids

-- their ids, rising
abbrev pub ids_in : (k : Layout) → Marks k → List ℕ
ids_in plain ids = ids
ids_in table ids = listed ids

-- ---- Waiting copies: one more, at its place by time, then sequence

abbrev pub with_copy : Layout → Copy → List Copy → List Copy
with_copy plain c w = ordered c w
with_copy table c w = insert_copy c w

-- ---- Rings, each oldest first: so many empty ones; that of a type and scope; that one anew

abbrev pub no_rings : (k : Layout) → ℕ → Rings k
no_rings plain n = λ kind scope. []
no_rings table n = replicate n []

abbrev pub ring_of : (k : Layout) → Rings k → (kind scope : ℕ) → List Entry
ring_of plain rings kind scope = rings kind scope
ring_of table rings kind scope = get_or rings (number_of kind scope) []

abbrev pub with_ring : (k : Layout) → Rings k → (kind scope : ℕ) → List Entry → Rings k
with_ring plain rings kind scope ring = λ i j. cond (eqb i kind && eqb j scope) ring (rings i j)
with_ring table rings kind scope ring = set rings (number_of kind scope) ring

-- a table's rings by type and scope
abbrev pub rings_in : Rings table → Rings plain
rings_in rings = λ kind scope. cond (ltb scope scopes) (ring_of table rings kind scope) []
