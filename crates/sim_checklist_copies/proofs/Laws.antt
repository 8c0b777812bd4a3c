-- The rows and tables of parts D and E from their pieces.
use Rattle.std.proofs.Common.{◌≡◌, ℕ, Bool, true, false, eqb, [], ◌∷◌, sym, ap, ◌∙◌, subst, eq-eqb, ne_eqb}
use Rattle.sim_printer.specs.Printer.{Page, Spelled}
use Rattle.sim_figures.specs.declared.Figures.{Figures}
use Rattle.sim_figures.specs.declared.TillFigures.{TillFigures}
use Rattle.sim_figures.specs.Figures.{till_of}
use Rattle.sim_comparison.specs.declared.Pair.{Pair}
use Rattle.sim_comparison.specs.declared.Counted.{Counted}
use Rattle.sim_comparison.specs.Compared.{class_of, classes_differ}
use Rattle.sim_sheet.specs.Sheet.{figure, Prints, wide, bytes, saying, newline, at_right, verdict_line}
use Rattle.sim_sheet.proofs.Laws.{onward, nothing, figured, shown_none}
use Rattle.sim_checklist_copies.specs.Copies.{none_in, class_line, class_lines, class_table, as_sender, as_receiver}

-- ---- Classes

pub no_class : (p : Page) (l : Figures) (of : Counted) (k : ℕ) (c : Pair) (b : Bool) → c ≡ class_of l of k → b ≡ none_in c → b ≡ true → Prints (class_line l of k) p p
unfolding class_line
no_class p l of k c b e f t = simp (sym (ap none_in e) ∙ (sym f ∙ t)) (nothing p)

pub a-class :
    (p m o r q : Page) (l : Figures) (of : Counted) (k : ℕ) (c : Pair) (b : Bool) → c ≡ class_of l of k → b ≡ none_in c → b ≡ false → Spelled 10 1 5 k p m → Spelled 10 1 21 c.left m o
    → Spelled 10 1 22 c.right o r → Prints newline r q → Prints (class_line l of k) p q
unfolding class_line
a-class p m o r q l of k c b e f t s u v a =
    simp (sym (ap none_in e) ∙ (sym f ∙ t)) (subst (λ (x : Pair). Prints (figure k 5 ∷ figure x.left 21 ∷ figure x.right 22 ∷ newline) p q) e row)
  where
    row : Prints (figure k 5 ∷ figure c.left 21 ∷ figure c.right 22 ∷ newline) p q
    row =
        onward (figure k 5 ∷ []) (figure c.left 21 ∷ figure c.right 22 ∷ newline) p m q (figured p m k 5 s)
        (onward (figure c.left 21 ∷ []) (figure c.right 22 ∷ newline) m o q (figured m o c.left 21 u) (onward (figure c.right 22 ∷ []) newline o r q (figured o r c.right 22 v) a))

pub no_log : (p m q : Page) (l : Figures) (of : Counted) (n : ℕ) → n ≡ l.log → n ≡ 0 → Prints (at_right (bytes "no log") wide) p m → Prints newline m q → Prints (class_table l of) p q
unfolding class_table
no_log p m q l of n e z a b = simp (eq-eqb (l.log) 0 (sym e ∙ z)) (onward (at_right (bytes "no log") wide) newline p m q a b)

pub a-log :
    (p m o q : Page) (l : Figures) (of : Counted) (n d : ℕ) → n ≡ l.log → (n ≡ 0 → ⊥) → Prints (saying "class               = rows                 = log\n") p m
    → Prints (class_lines l of) m o → d ≡ classes_differ l of → Prints (verdict_line (eqb d 0)) o q → Prints (class_table l of) p q
unfolding class_table
a-log p m o q l of n d e z a b ed v =
    simp (ne_eqb (l.log) 0 (λ y. z (e ∙ y)))
    (onward (saying "class               = rows                 = log\n") _ p m q a
    (onward (class_lines l of) (verdict_line (eqb (classes_differ l of) 0)) m o q b (shown_none d (classes_differ l of) o q ed v)))

-- ---- Slips

pub sender_at : (p q : Page) (l : Figures) (t : ℕ) (r : TillFigures) → r ≡ till_of l t → Prints (as_sender r.sent) p q → Prints (as_sender (till_of l t).sent) p q
sender_at p q l t r e a = subst (λ (x : TillFigures). Prints (as_sender x.sent) p q) e a

pub receiver_at : (p q : Page) (l : Figures) (t : ℕ) (r : TillFigures) → r ≡ till_of l t → Prints (as_receiver r) p q → Prints (as_receiver (till_of l t)) p q
receiver_at p q l t r e a = subst (λ (x : TillFigures). Prints (as_receiver x) p q) e a
