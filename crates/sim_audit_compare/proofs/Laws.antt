-- Answers that are not recorded: none where the book has no more, and one before the rest.
use Rattle.std.proofs.Common.{◌≡◌, ℕ, zero, suc, ◌+◌, ◌-◌, ◌<◌, ◌≤◌, List, length, drop, refl, ap, sym, ◌∙◌, arith, length-drop}
use borrow.Author.Tests.{le-leb, lt-leb}
use Rattle.std.specs.List.{position_or_len}
use Rattle.sim_audit_lines.specs.Recorded.{ends_line}
use Rattle.sim_audit_account.specs.declared.Account.{Account}
use Rattle.sim_audit_compare.specs.Compared.{next_at, unsaid_note, closed_by}

pub none_left : (n : ℕ) (a : Account) (book : List ℕ) → length book ≤ a.read → closed_by n a book ≡ a
unfolding closed_by
none_left zero a book h = refl
none_left (suc n) a book h = simp (le-leb (length book) a.read h)

one_more : (n : ℕ) (a : Account) (book : List ℕ) → a.read < length book → closed_by (suc n) a book ≡ closed_by n (unsaid_note a book) book
unfolding closed_by
one_more n a book h = simp (lt-leb (length book) a.read h)

further : (book : List ℕ) (i : ℕ) → i < length book → i < next_at book i
further book i h = omega (arith, length-drop i book, length-drop (position_or_len ends_line (drop i book) + 1) (drop i book))

-- the steps that are left, behind one of them
pub closed_on : (left : ℕ) (a b t : Account) (book : List ℕ) → a.read < length book → b ≡ unsaid_note a book → length book ≤ a.read + left →
    closed_by left a book ≡ t → (m : ℕ) × (length book ≤ b.read + m) × (closed_by m b book ≡ t)
closed_on zero a b t book h e f g = absurd (omega arith)
closed_on (suc m) a b t book h e f g =
    (m, omega (arith, ap (λ (x : Account). x.read) e, further book a.read h), ap (λ (x : Account). closed_by m x book) e ∙ (sym (one_more m a book h) ∙ g))
