-- Pieces printed one by one, and one list of pieces behind another; the lines of the checklist from their parts.
use mathlib.Core.Path.{◌≡◌, refl, ap, subst, sym, ◌∙◌}
use mathlib.Core.Bool.{Bool, true, false}
use mathlib.Core.List.{List, [], ◌∷◌, ◌++◌}
use Prim.Native.Nat.{ℕ, ◌+◌, ◌-◌, ◌≤◌}
use native.Mathlib.Numerals.{add-one}
use native.Mathlib.Omega.{arith}
use lib.Dec.{eqb}
use lib.ListN.{length}
use Rattle.sim_printer.specs.Printer.{Page, gathered, blanks, Spelled}
use Rattle.sim_comparison.specs.declared.Pair.{Pair}
use Rattle.sim_sheet.specs.Sheet.{Piece, text, spaces, figure, Prints, label_wide, figure_wide, bytes, newline}
use Rattle.sim_sheet.specs.Sheet.{labelled, at_right, line_of, verdict_in, verdict_line, judged_lines, compared_lines, bounded_lines, table_of, four_of, three_of}

pub onward : (xs ys : List Piece) (p m q : Page) → Prints xs p m → Prints ys m q → Prints (xs ++ ys) p q
unfolding Prints
onward [] ys p m q e b = subst (λ (x : Page). Prints ys x q) e b
onward (text t ∷ xs) ys p m q a b = onward xs ys (gathered p t) m q a b
onward (spaces n ∷ xs) ys p m q a b = onward xs ys (gathered p (blanks n)) m q a b
onward (figure n w ∷ xs) ys p m q a b = (a.0, a.1, onward xs ys a.0 m q a.2 b)

pub nothing : (p : Page) → Prints [] p p
unfolding Prints
nothing p = refl

pub said : (p q : Page) (t : List ℕ) → q ≡ gathered p t → Prints (text t ∷ []) p q
unfolding Prints
said p q t e = e

spaced : (p q : Page) (n : ℕ) → q ≡ gathered p (blanks n) → Prints (spaces n ∷ []) p q
unfolding Prints
spaced p q n e = e

pub figured : (p q : Page) (n w : ℕ) → Spelled 10 1 w n p q → Prints (figure n w ∷ []) p q
unfolding Prints
figured p q n w s = (q, s, refl)

pub padded : (p m q : Page) (what : List ℕ) (width k : ℕ) → k ≡ width - length what → Prints (text what ∷ []) p m → q ≡ gathered m (blanks k) → Prints (labelled what width) p q
padded p m q what width k e a b =
    onward (text what ∷ []) (spaces (width - length what) ∷ []) p m q a (spaced m q (width - length what) (b ∙ ap (λ (x : ℕ). gathered m (blanks x)) e))

pub pushed : (p m q : Page) (what : List ℕ) (width k : ℕ) → k ≡ width - length what → m ≡ gathered p (blanks k) → Prints (text what ∷ []) m q → Prints (at_right what width) p q
pushed p m q what width k e a b =
    onward (spaces (width - length what) ∷ []) (text what ∷ []) p m q (spaced p m (width - length what) (a ∙ ap (λ (x : ℕ). gathered p (blanks x)) e)) b

pub lined : (p m k q : Page) (what : List ℕ) (n : ℕ) → Prints (labelled what label_wide) p m → Spelled 10 1 figure_wide n m k → Prints newline k q → Prints (line_of what n) p q
lined p m k q what n a s b =
    onward (labelled what label_wide) (figure n figure_wide ∷ newline) p m q a (onward (figure n figure_wide ∷ []) newline m k q (figured m k n figure_wide s) b)

-- ---- Verdicts

pub agreeing : (p q : Page) (same : Bool) (width : ℕ) → same ≡ true → Prints (at_right (bytes "agrees") width) p q → Prints (verdict_in same width) p q
agreeing p q same width e a = subst (λ (b : Bool). Prints (verdict_in b width) p q) (sym e) a

pub differing : (p q : Page) (same : Bool) (width : ℕ) → same ≡ false → Prints (at_right (bytes "DIFFERS") width) p q → Prints (verdict_in same width) p q
differing p q same width e a = subst (λ (b : Bool). Prints (verdict_in b width) p q) (sym e) a

pub judges :
    (p m k q : Page) (c : Pair) (left other : List ℕ) (same : Bool) → Prints (line_of left c.left) p m → Prints (line_of other c.right) m k → Prints (verdict_line same) k q
    → Prints (judged_lines c same left other) p q
judges p m k q c left other same a b v =
    onward (line_of left c.left) (line_of other c.right ++ verdict_line same) p m q a (onward (line_of other c.right) (verdict_line same) m k q b v)

pub judged_by : (p q : Page) (c : Pair) (left other : List ℕ) (same right : Bool) → same ≡ right → Prints (judged_lines c same left other) p q → Prints (judged_lines c right left other) p q
judged_by p q c left other same right e a = subst (λ (b : Bool). Prints (judged_lines c b left other) p q) e a

-- ---- Rows

ahead : (ys : List Piece) (p m q : Page) (n w : ℕ) → Spelled 10 1 w n p m → Prints ys m q → Prints (figure n w ∷ ys) p q
ahead ys p m q n w s a = onward (figure n w ∷ []) ys p m q (figured p m n w s) a

pub fourth :
    (p k l m n q : Page) (a b c d : ℕ) → Spelled 10 1 11 a p k → Spelled 10 1 11 b k l → Spelled 10 1 11 c l m → Spelled 10 1 11 d m n → Prints newline n q
    → Prints (four_of a b c d) p q
fourth p k l m n q a b c d f g h i e =
    ahead (figure b 11 ∷ figure c 11 ∷ figure d 11 ∷ newline) p k q a 11 f
    (ahead (figure c 11 ∷ figure d 11 ∷ newline) k l q b 11 g (ahead (figure d 11 ∷ newline) l m q c 11 h (ahead newline m n q d 11 i e)))

pub third :
    (p k l m n q : Page) (what : List ℕ) (a b c : ℕ) → Prints (labelled what 12) p k → Spelled 10 1 12 a k l → Spelled 10 1 12 b l m → Spelled 10 1 12 c m n → Prints newline n q
    → Prints (three_of what a b c) p q
third p k l m n q what a b c t f g h e =
    onward (labelled what 12) (figure a 12 ∷ figure b 12 ∷ figure c 12 ∷ newline) p k q t
    (ahead (figure b 12 ∷ figure c 12 ∷ newline) k l q a 12 f (ahead (figure c 12 ∷ newline) l m q b 12 g (ahead newline m n q c 12 h e)))

-- ---- Tables

pub table_none : (row : ℕ → List Piece) (p : Page) → Prints (table_of row 0) p p
unfolding table_of
table_none row p = nothing p

pub table_more : (row : ℕ → List Piece) (p m q : Page) (n : ℕ) → Prints (table_of row n) p m → Prints (row n) m q → Prints (table_of row (n + 1)) p q
unfolding table_of
table_more row p m q n a b = subst (λ (x : ℕ). Prints (table_of row x) p q) (sym (add-one n)) (onward (table_of row n) (row n) p m q a b)

pub table_end : (row : ℕ → List Piece) (p q : Page) (i n : ℕ) → i ≤ n → n ≤ i → Prints (table_of row i) p q → Prints (table_of row n) p q
table_end row p q i n a b t =
    let same : i ≡ n = omega arith in
    subst (λ (x : ℕ). Prints (table_of row x) p q) same t

-- ---- The same with figures that are the same

pub shown_table : (row : ℕ → List Piece) (p q : Page) (n m : ℕ) → n ≡ m → Prints (table_of row n) p q → Prints (table_of row m) p q
shown_table row p q n m e a = subst (λ (x : ℕ). Prints (table_of row x) p q) e a

pub shown : (p q : Page) (what : List ℕ) (n m : ℕ) → n ≡ m → Prints (line_of what n) p q → Prints (line_of what m) p q
shown p q what n m e a = subst (λ (x : ℕ). Prints (line_of what x) p q) e a

pub shown_pair : (p q : Page) (c d : Pair) (left other : List ℕ) → c ≡ d → Prints (compared_lines c left other) p q → Prints (compared_lines d left other) p q
shown_pair p q c d left other e a = subst (λ (x : Pair). Prints (compared_lines x left other) p q) e a

pub shown_bound : (p q : Page) (c d : Pair) (left other : List ℕ) → c ≡ d → Prints (bounded_lines c left other) p q → Prints (bounded_lines d left other) p q
shown_bound p q c d left other e a = subst (λ (x : Pair). Prints (bounded_lines x left other) p q) e a

pub shown_four : (p q : Page) (a b c d a' b' c' d' : ℕ) → a ≡ a' → b ≡ b' → c ≡ c' → d ≡ d' → Prints (four_of a b c d) p q → Prints (four_of a' b' c' d') p q
shown_four p q a b c d a' b' c' d' e f g h i =
    subst (λ (x : ℕ). Prints (four_of a' b' c' x) p q) h
    (subst (λ (x : ℕ). Prints (four_of a' b' x d) p q) g (subst (λ (x : ℕ). Prints (four_of a' x c d) p q) f (subst (λ (x : ℕ). Prints (four_of x b c d) p q) e i)))

pub shown_three : (p q : Page) (what : List ℕ) (a b c a' b' c' : ℕ) → a ≡ a' → b ≡ b' → c ≡ c' → Prints (three_of what a b c) p q → Prints (three_of what a' b' c') p q
shown_three p q what a b c a' b' c' e f g i =
    subst (λ (x : ℕ). Prints (three_of what a' b' x) p q) g
    (subst (λ (x : ℕ). Prints (three_of what a' x c) p q) f (subst (λ (x : ℕ). Prints (three_of what x b c) p q) e i))

pub shown_verdict : (p q : Page) (b c : Bool) (width : ℕ) → b ≡ c → Prints (verdict_in b width) p q → Prints (verdict_in c width) p q
shown_verdict p q b c width e a = subst (λ (x : Bool). Prints (verdict_in x width) p q) e a

pub shown_none : (n n' : ℕ) (p q : Page) → n ≡ n' → Prints (verdict_line (eqb n 0)) p q → Prints (verdict_line (eqb n' 0)) p q
shown_none n n' p q e a = subst (λ (x : ℕ). Prints (verdict_line (eqb x 0)) p q) e a
