-- The lines of a recorded run: calls behind `>`, answers, remarks; and whether a recorded answer says what the book says.
use Rattle.std.specs.Prelude.{◌≡◌, ℕ, ◌-◌, ◌<◌, Bool, true, false, ◌||◌, ◌==◌, if◌then◌else◌, eqb, List, [], ◌∷◌, length, take, slice_index, codes, Option, MatchOption}
use Rattle.std.specs.List.{suffix_len, starts_with}
use Rattle.std.specs.Str.{bytes_eq}
use Rattle.sim_audit_lines.specs.declared.LineKind.{LineKind}
use Rattle.sim_audit_lines.specs.declared.LineKind.TheVariants.{Call, Answer, Remark}

-- ---- What a line is

-- space, tab, carriage return
abbrev pub blank : ℕ → Bool
blank b = b == 32 || b == 9 || b == 13

-- where its last byte stands that is no blank
abbrev pub IsLastMark : List ℕ → Option ℕ → Type 0
IsLastMark s place =
    MatchOption place
    ((k : ℕ) → k < length s → blank (slice_index s k) ≡ true)
    (λ i. (i < length s) × (blank (slice_index s i) ≡ false) × ((k : ℕ) → i < k → k < length s → blank (slice_index s k) ≡ true))

-- a line without the blanks at its end
abbrev pub trimmed : List ℕ → List ℕ
trimmed s = take (length s - suffix_len blank s) s

-- what a line is by its first byte: `>` is 62, `#` is 35
abbrev pub kind_by : List ℕ → LineKind
kind_by [] = Remark
kind_by (b ∷ s) = if b == 62 then Call else (if b == 35 then Remark else Answer)

-- a blank line is a remark
abbrev pub line_kind : List ℕ → LineKind
line_kind s = kind_by (trimmed s)

-- ---- The lines of a text

-- each has a line end (10) behind it
abbrev pub ends_line : ℕ → Bool
ends_line b = b == 10

-- ---- Does a recorded answer say what the book says?

-- the words that document 02 adds to an answer stand at its end; the first of them is one of these
unfoldable pub added : List ℕ → Bool
added s = starts_with eqb s (codes " time=") || starts_with eqb s (codes " kind=") || starts_with eqb s (codes " more=")

-- a line of the book without them
abbrev pub plain : List ℕ → List ℕ
plain [] = []
plain (b ∷ s) = if added (b ∷ s) then [] else (b ∷ plain s)

-- the recorded line r, without blanks at its end, is the book's line b, or b without the words that document 02 adds
unfoldable pub agreed : (r b : List ℕ) → Bool
agreed r b = bytes_eq (trimmed r) b || bytes_eq (trimmed r) (plain b)
