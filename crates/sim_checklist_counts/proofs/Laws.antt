-- The parts of the checklist from their lines; a table from its rows.
use mathlib.Core.Path.{◌≡◌, subst, sym, ◌∙◌}
use mathlib.Core.List.{[], ◌∷◌}
use Prim.Native.Nat.{ℕ}
use borrow.Author.Tests.{eq-eqb, ne_eqb}
use Rattle.sim_printer.specs.Printer.{Page, Spelled}
use Rattle.sim_figures.specs.declared.Figures.{Figures}
use Rattle.sim_figures.specs.declared.TillFigures.{TillFigures}
use Rattle.sim_figures.specs.Figures.{refused_of, till_of}
use Rattle.sim_sheet.specs.Sheet.{figure, Prints, saying, newline, four_of}
use Rattle.sim_sheet.proofs.Laws.{onward, figured, nothing}
use Rattle.sim_checklist_counts.specs.Counts.{refusal_of, sender_row}

-- ---- Refusals

pub unasked : (p : Page) (l : Figures) (k n : ℕ) → n ≡ refused_of l k → n ≡ 0 → Prints (refusal_of l k) p p
unfolding refusal_of
unasked p l k n en e = simp (eq-eqb (refused_of l k) 0 (sym en ∙ e)) (nothing p)

pub asked :
    (p m o r q : Page) (l : Figures) (k n : ℕ) → n ≡ refused_of l k → (n ≡ 0 → ⊥) → Prints (saying "  by question ") p m → Spelled 10 1 2 k m o
    → Spelled 10 1 32 n o r → Prints newline r q → Prints (refusal_of l k) p q
unfolding refusal_of
asked p m o r q l k n en e a s t b =
    simp (ne_eqb (refused_of l k) 0 (λ z. e (en ∙ z)))
    (onward (saying "  by question ") (figure k 2 ∷ figure (refused_of l k) 32 ∷ newline) p m q a
    (onward (figure k 2 ∷ []) (figure (refused_of l k) 32 ∷ newline) m o q (figured m o k 2 s)
    (onward (figure (refused_of l k) 32 ∷ []) newline o r q (figured o r (refused_of l k) 32 (subst (λ (x : ℕ). Spelled 10 1 32 x o r) en t)) b)))

-- ---- Rows by sender

pub sender :
    (p m q : Page) (l : Figures) (t : ℕ) (r : TillFigures) → r ≡ till_of l t → Spelled 10 1 4 t p m → Prints (four_of r.sent.partition r.sent.loss r.sent.fault r.lost_from) m q
    → Prints (sender_row l t) p q
unfolding sender_row
sender p m q l t r er s a =
    onward (figure t 4 ∷ []) (four_of (till_of l t).sent.partition (till_of l t).sent.loss (till_of l t).sent.fault (till_of l t).lost_from) p m q (figured p m t 4 s)
    (subst (λ (x : TillFigures). Prints (four_of x.sent.partition x.sent.loss x.sent.fault x.lost_from) m q) er a)
