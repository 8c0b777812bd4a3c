-- The checklist as a list of pieces: texts, spaces, and figures with spaces in front; its lines; and what printing the pieces means.
use Rattle.std.specs.Prelude.{◌≡◌, Bool, cond, List, [], ◌∷◌, ◌++◌, ℕ, zero, suc, ◌-◌, length}
use Prim.Native.Char.{code}
use Prim.Native.String.{String, [] as none, ◌∷◌ as ◌then◌}
use Rattle.sim_printer.specs.Printer.{Page, gathered, blanks, Spelled}
use Rattle.sim_comparison.specs.declared.Pair.{Pair}
use Rattle.sim_comparison.specs.Compared.{agreed, within}

pub data Piece : Type 0 where
  text : List ℕ → Piece
  spaces : ℕ → Piece
  figure : (n width : ℕ) → Piece

-- the pieces, one behind the other, lead from the page p to the page q
unfoldable pub Prints : List Piece → Page → Page → Type 0
Prints [] p q = q ≡ p
Prints (text t ∷ rest) p q = Prints rest (gathered p t) q
Prints (spaces n ∷ rest) p q = Prints rest (gathered p (blanks n)) q
Prints (figure n width ∷ rest) p q = (m : Page) × Spelled 10 1 width n p m × Prints rest m q

-- ---- Columns: of a page, of a label, of the figure behind it

abbrev pub wide : ℕ
wide = 48

abbrev pub label_wide : ℕ
label_wide = 28

abbrev pub figure_wide : ℕ
figure_wide = 20

-- ---- Lines

-- the bytes of a text of ASCII characters
abbrev pub bytes : String → List ℕ
bytes none = []
bytes (c then s) = code c ∷ bytes s

abbrev pub saying : String → List Piece
saying s = text (bytes s) ∷ []

abbrev pub newline : List Piece
newline = text (10 ∷ []) ∷ []

-- a text, and spaces behind it up to a width; with the spaces in front
abbrev pub labelled : List ℕ → ℕ → List Piece
labelled what width = text what ∷ spaces (width - length what) ∷ []

abbrev pub at_right : List ℕ → ℕ → List Piece
at_right what width = spaces (width - length what) ∷ text what ∷ []

-- a label and a figure
abbrev pub line_of : List ℕ → ℕ → List Piece
line_of what n = labelled what label_wide ++ (figure n figure_wide ∷ newline)

-- ---- Verdicts: THE WORD IS `agrees` WHERE THE COMPARISON AGREES, AND `DIFFERS` WHERE IT DOES NOT

abbrev pub verdict_word : Bool → List ℕ
verdict_word same = cond same (bytes "agrees") (bytes "DIFFERS")

abbrev pub verdict_in : Bool → ℕ → List Piece
verdict_in same width = at_right (verdict_word same) width

abbrev pub verdict_line : Bool → List Piece
verdict_line same = verdict_in same wide ++ newline

-- the two figures of a comparison, and a verdict
abbrev pub judged_lines : Pair → Bool → (left other : List ℕ) → List Piece
judged_lines p same left other = line_of left p.left ++ (line_of other p.right ++ verdict_line same)

-- are they the same? Is the left one at most the right one?
abbrev pub compared_lines : Pair → (left other : List ℕ) → List Piece
compared_lines p left other = judged_lines p (agreed p) left other

abbrev pub bounded_lines : Pair → (left other : List ℕ) → List Piece
bounded_lines p left other = judged_lines p (within p) left other

-- ---- Tables: the rows 0 to n - 1

unfoldable pub table_of : (ℕ → List Piece) → ℕ → List Piece
table_of row zero = []
table_of row (suc n) = table_of row n ++ row n

abbrev pub four_of : ℕ → ℕ → ℕ → ℕ → List Piece
four_of a b c d = figure a 11 ∷ figure b 11 ∷ figure c 11 ∷ figure d 11 ∷ newline

abbrev pub three_of : List ℕ → ℕ → ℕ → ℕ → List Piece
three_of what a b c = labelled what 12 ++ (figure a 12 ∷ figure b 12 ∷ figure c 12 ∷ newline)
