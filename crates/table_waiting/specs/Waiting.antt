-- Document 01, network (flush runs by time, then sequence): waiting copies, rows of a delivery and four words more, in the order of time, then sequence.
use Rattle.std.specs.Prelude.{List, [], ◌∷◌, ◌++◌, Bool, false, cond, not, ◌&&◌, ◌||◌, ◌≡◌, ℕ, ◌+◌, ◌≤◌, ltb, leb, eqb, get_or, length, take, refl}
use Rattle.std.proofs.Common.{ap, sym, ◌∙◌, arith}
use lib.Seq.{take-add}
use Rattle.table_shift.proofs.Blocks.{cells, cells_eq}
use Rattle.table_rows.specs.Lists.{Each, through_last}
use Rattle.table_rows.specs.Table.{Form, Exact, rows_of}
use Rattle.table_delivery.specs.Delivery as delivery
use Rattle.table_waiting.specs.declared.Copy.{Copy}

abbrev pub width : ℕ
width = delivery.width + 4

-- the copy at the head of a list of words
abbrev pub read : List ℕ → Copy
read l = record { delivery = delivery.read l; sequence = get_or l 8 0; original = get_or l 9 0; id = get_or l 10 0; tag = get_or l 11 0 }

abbrev pub words : Copy → List ℕ
words c = delivery.words c.delivery ++ (c.sequence ∷ c.original ∷ c.id ∷ c.tag ∷ [])

abbrev pub form : Form Copy
form = record { width = width; read = read; words = words }

whole : (l : List ℕ) → width ≤ length l → words (read l) ≡ take width l
whole l h =
    ap (λ (w : List ℕ). w ++ cells l 0 delivery.width 4) ((delivery.exact).whole l (omega arith))
    ∙ ap (λ (w : List ℕ). take delivery.width l ++ w) (cells_eq l 0 delivery.width 4 (omega arith))
    ∙ sym (take-add delivery.width 4 l)

-- a copy and its words: each way undoes the other
pub exact : Exact form
exact = record { long = λ c. refl; back = λ c m. refl; whole = whole }

-- the first n rows of a table
abbrev pub copies : List ℕ → ℕ → List Copy
copies ws n = rows_of form ws n

-- a is before b, by time, then by sequence
unfoldable pub before : Copy → Copy → Bool
before a b = ltb a.delivery.time b.delivery.time || (eqb a.delivery.time b.delivery.time && ltb a.sequence b.sequence)

-- plain insertion: c before the first copy that it is before
abbrev pub ordered : Copy → List Copy → List Copy
ordered c [] = c ∷ []
ordered c (r ∷ rs) = cond (before c r) (c ∷ r ∷ rs) (r ∷ ordered c rs)

-- some copy stands that c is not before
abbrev pub passes : Copy → List Copy → Bool
passes c [] = false
passes c (r ∷ rs) = not (before c r) || passes c rs

-- c behind the last copy that it is not before, whatever the copies are
abbrev pub insert_copy : Copy → List Copy → List Copy
insert_copy c [] = c ∷ []
insert_copy c (r ∷ rs) = cond (passes c (r ∷ rs)) (r ∷ insert_copy c rs) (c ∷ r ∷ rs)

-- how many copies c goes behind
abbrev pub place_of : Copy → List Copy → ℕ
place_of c rs = through_last (λ (r : Copy). not (before c r)) rs

abbrev pub on_time : ℕ → Copy → Bool
on_time until c = leb c.delivery.time until

-- THE ORDER: no copy behind one is before it
abbrev pub Sorted : List Copy → Type 0
Sorted [] = Unit {0}
Sorted (c ∷ w) = Each (λ (x : Copy). before x c ≡ false) w × Sorted w
