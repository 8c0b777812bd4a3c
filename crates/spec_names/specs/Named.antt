-- Document 02, M-112, and document 01, 'The book': DEMAND 3 over lists with calls on names. For a bookkeeper the list of calls after a return is the one that stood at the keeping, the later ones appended.
use Rattle.std.specs.Prelude.{◌≡◌, ℕ, zero, suc, Bool, true, false, cond, List, [], ◌∷◌, ◌++◌, eqb, take}
use Rattle.std.proofs.Math.Option.{Option, none, some}
use Rattle.spec_network.specs.Opening.{Sizes, Settings, Opening}
use Rattle.spec_network.specs.Questions.{first_no, answer_to}
use Rattle.spec_network.specs.Tables.{Tables, sizes_at}
use Rattle.spec_network.specs.Real.{opening_of}
use Rattle.spec_network.specs.Open.{open_tables}
use Rattle.spec_book.specs.Book.{Book, opened}
use Rattle.spec_book.specs.Demand3.{Item, Admitted, tables_after, tables_at_end, book_at_end, CallHolds, Demand3}
use Rattle.spec_names.specs.Keeping.{NameCall, keep, return, give_up, need_words, open_shelf, keeps, asked_name, tables_if, shelf_if, memory_if, memory_of, name_number, name_refused, name_tables, name_shelf, name_memory}

-- a call of the old list; a call on names; one on names that was lent other tables or another shelf, which question 1 refuses
pub data Act : Type 0 where
  call : Item → Act
  named : NameCall → Act
  strangers : Tables → (shelf : List ℕ) → NameCall → Act

module _ {A : Type 0} where
  abbrev pub put : ℕ → A → (ℕ → A) → ℕ → A
  put n x f m = cond (eqb m n) x (f m)

  abbrev pub or_else : Option A → A → A
  or_else none a = a
  or_else (some x) a = x

  abbrev pub is_some : Option A → Bool
  is_some none = false
  is_some (some x) = true

-- ---- The program's side: the tables, the shelf, and what the last keeping under a name left in the memory lent to it

pub record Side : Type 0 where
  pub tables : Tables
  pub shelf : List ℕ
  pub left : ℕ → List ℕ

abbrev pub left_if : Bool → Sizes → Side → NameCall → ℕ → List ℕ
left_if true z p a = p.left
left_if false z p (keep n m) = put n (memory_if false z p.tables (keep n m)) p.left
left_if false z p (return n m) = p.left
left_if false z p (give_up n) = p.left

abbrev pub side_if : Bool → Sizes → Side → NameCall → Side
side_if r z p a = record { tables = tables_if r z p.tables a; shelf = shelf_if r p.shelf a; left = left_if r z p a }

abbrev pub side_after : Side → Act → Side
side_after p (call i) = record { tables = tables_after p.tables i; shelf = p.shelf; left = p.left }
side_after p (named a) = side_if (name_refused p.tables p.shelf a) (sizes_at p.tables.setup) p a
side_after p (strangers X shelf a) = p

abbrev pub side_at_end : Side → List Act → Side
side_at_end p [] = p
side_at_end p (a ∷ acts) = side_at_end (side_after p a) acts

-- ---- The bookkeeper's: the list of calls that stands, and those that the names keep; fed the calls and whether a number refused

pub record Told : Type 0 where
  pub now : List Item
  pub kept : ℕ → Option (List Item)

abbrev pub nothing_told : Told
nothing_told = record { now = []; kept = λ n. none }

abbrev pub told_name : Told → NameCall → Bool → Told
told_name t a true = t
told_name t (keep n m) false = record { now = t.now; kept = put n (some t.now) t.kept }
told_name t (return n m) false = record { now = or_else (t.kept n) t.now; kept = t.kept }
told_name t (give_up n) false = record { now = t.now; kept = put n none t.kept }

abbrev pub told_after : Told → Side → Act → Told
told_after t p (call i) = record { now = t.now ++ (i ∷ []); kept = t.kept }
told_after t p (named a) = told_name t a (name_refused p.tables p.shelf a)
told_after t p (strangers X shelf a) = told_name t a (name_refused X shelf a)

abbrev pub told_at_end : Told → Side → List Act → Told
told_at_end t p [] = t
told_at_end t p (a ∷ acts) = told_at_end (told_after t p a) (side_after p a) acts

-- ---- Lists that demand 3 speaks of: an accepted return was lent the memory kept in, its state's words unwritten since

module _ (o : Opening) where
  abbrev pub AdmittedName : Side → NameCall → Type 0
  AdmittedName p (keep n m) = Unit {0}
  AdmittedName p (return n m) = name_number p.tables p.shelf (return n m) ≡ 0 → take (need_words o.sizes) m ≡ take (need_words o.sizes) (p.left n)
  AdmittedName p (give_up n) = Unit {0}

  abbrev pub AdmittedAct : Side → Act → Type 0
  AdmittedAct p (call i) = Admitted i
  AdmittedAct p (named a) = AdmittedName p a
  AdmittedAct p (strangers X shelf a) = name_number X shelf a ≡ 1

  abbrev pub AdmittedActs : Side → List Act → Type 0
  AdmittedActs p [] = Unit {0}
  AdmittedActs p (a ∷ acts) = AdmittedAct p a × AdmittedActs (side_after p a) acts

  -- ---- What holds of each call

  -- the number is that of the first question answered "no"; whether a name keeps a state is asked of the book
  abbrev pub NumberIsName : Told → Side → NameCall → ℕ → Type 0
  NumberIsName t p a n = n ≡ first_no (asked_name o.sizes p.tables (λ k. is_some (t.kept k)) a)

  -- so a number came back only where its question's answer is "no"
  abbrev pub OnlyNoName : Told → Side → NameCall → ℕ → Type 0
  OnlyNoName t p a zero = Unit {0}
  OnlyNoName t p a (suc n) = answer_to (asked_name o.sizes p.tables (λ k. is_some (t.kept k)) a) (suc n) ≡ false

  -- a refused call leaves tables, shelf and memory as found
  abbrev pub AsFound : Tables → List ℕ → NameCall → Type 0
  AsFound T shelf a = name_refused T shelf a ≡ true → (name_tables T shelf a ≡ T) × (name_shelf T shelf a ≡ shelf) × (name_memory T shelf a ≡ memory_of a)

  module _ (masks : List ℕ) (T₀ : Tables) where
    -- the book of the list that stands
    abbrev pub book_of : Told → Book
    book_of t = book_at_end o (opened o masks) T₀ t.now

    abbrev pub ActHolds : Told → Side → Act → Type 0
    ActHolds t p (call i) = CallHolds o (book_of t) p.tables i
    ActHolds t p (named a) = NumberIsName t p a (name_number p.tables p.shelf a) × OnlyNoName t p a (name_number p.tables p.shelf a) × AsFound p.tables p.shelf a
    ActHolds t p (strangers X shelf a) = (name_number X shelf a ≡ 1) × AsFound X shelf a

    abbrev pub ActsHold : Told → Side → List Act → Type 0
    ActsHold t p [] = Unit {0}
    ActsHold t p (a ∷ acts) = ActHolds t p a × ActsHold (told_after t p a) (side_after p a) acts

abbrev pub open_side : Tables → Side
open_side T₀ = record { tables = T₀; shelf = open_shelf; left = λ n. [] }

pub record NamedDemand3 (x : Settings) (masks : List ℕ) (lent : Tables) (acts : List Act) : Type 0 where
  pub calls : ActsHold (opening_of x lent.names) masks (open_tables x masks lent) nothing_told (open_side (open_tables x masks lent)) acts
  -- every table is what the list that stands would have left, all calls on names left out
  pub same_tables : (side_at_end (open_side (open_tables x masks lent)) acts).tables ≡ tables_at_end (open_tables x masks lent) (told_at_end nothing_told (open_side (open_tables x masks lent)) acts).now
  -- and demand 3 holds of that list
  pub demand3 : Demand3 x masks lent (told_at_end nothing_told (open_side (open_tables x masks lent)) acts).now
  -- the shelf tells the names that the book has
  pub same_names : (n : ℕ) → keeps (side_at_end (open_side (open_tables x masks lent)) acts).shelf n ≡ is_some ((told_at_end nothing_told (open_side (open_tables x masks lent)) acts).kept n)
