-- A recorded answer beside the book's answers to the last call, and the end of these answers: what the account notes.
use Rattle.std.specs.Prelude.{◌≡◌, ℕ, zero, suc, ◌+◌, ◌-◌, ◌<◌, ◌≤◌, Bool, false, if◌then◌else◌, List, nat_le, eqb, length, drop, codes, Option, MatchOption}
use Rattle.std.specs.List.{before_first, after_first, starts_with}
use Rattle.std.specs.Borrow.{Bor}
use Rattle.sim_audit_lines.specs.Recorded.{ends_line, agreed}
use Rattle.sim_audit_account.specs.declared.Account.{Account}
use Rattle.sim_audit_account.specs.Account.{answer_note, differ_note, bad_note}

-- the book's answer at i, and the place behind it and its line end
abbrev pub line_at : List ℕ → ℕ → List ℕ
line_at book i = before_first ends_line (drop i book)

abbrev pub next_at : List ℕ → ℕ → ℕ
next_at book i = i + (length (drop i book) - length (after_first ends_line (drop i book)))

-- the book has the answers up to i and no more
abbrev pub all_said : List ℕ → ℕ → Bool
all_said book i = nat_le (length book) i

-- the answer at i and the place behind it, where the book has one there
abbrev pub IsNext : List ℕ → ℕ → Option (Bor (List ℕ) × ℕ) → Type 0
IsNext book i next = MatchOption next (length book ≤ i) (λ p. (i < length book) × (p.0.now ≡ line_at book i) × (p.1 ≡ next_at book i))

-- a recorded answer and the book's next one; where the book has no more, the recorded one is too many
unfoldable pub compared_note : Account → (told book : List ℕ) → Account
compared_note a told book =
    if all_said book a.read then answer_note a false a.read
    else answer_note a (agreed told (line_at book a.read)) (next_at book a.read)

-- the book's next answer is not recorded
abbrev pub unsaid_note : Account → (book : List ℕ) → Account
unsaid_note a book = differ_note (record a { read = next_at book a.read })

-- up to n answers of the book that are not recorded
unfoldable pub closed_by : ℕ → Account → (book : List ℕ) → Account
closed_by zero a book = a
closed_by (suc n) a book = if all_said book a.read then a else closed_by n (unsaid_note a book) book

-- the end of a call's answers; the book's answer to a line that is no call begins with `err`
unfoldable pub ended_note : Account → (book : List ℕ) → Account
ended_note a book =
    if starts_with eqb book (codes "err ") then bad_note (closed_by (length book) a book) else closed_by (length book) a book
