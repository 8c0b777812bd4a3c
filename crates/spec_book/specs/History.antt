-- Document 01, 'The book': the words of demand 3 on what happened.
use Rattle.std.specs.Prelude.{ℕ, Bool, false, not, ◌&&◌, ◌||◌, List, [], ◌∷◌, eqb, leb, ltb}
use Rattle.table_waiting.specs.declared.Copy.{Copy}
use Rattle.spec_network.specs.Live.{is_original}
use Rattle.spec_book.specs.Book.{Event, scheduled, landed, dropped, down}

abbrev pub has_sequence : ℕ → Copy → Bool
has_sequence n c = eqb c.sequence n

-- sequences start at 1; `last` is the last one given
abbrev pub given : ℕ → ℕ → Bool
given n last = ltb 0 n && leb n last

-- an original of id i for till t
abbrev pub original_of : ℕ → ℕ → Copy → Bool
original_of t i c = is_original c && eqb i c.id && eqb t c.delivery.to

-- a take-down of till t, or a flush drop of an original of id i for it
abbrev pub clears : ℕ → ℕ → Event → Bool
clears t i (scheduled c) = false
clears t i (landed c) = false
clears t i (dropped c) = original_of t i c
clears t i (down u) = eqb t u

-- an original of id i for till t was scheduled, and nothing has cleared it since
abbrev pub standing : ℕ → ℕ → List Event → Bool
standing t i [] = false
standing t i (scheduled c ∷ es) = original_of t i c || standing t i es
standing t i (landed c ∷ es) = standing t i es
standing t i (dropped c ∷ es) = not (original_of t i c) && standing t i es
standing t i (down u ∷ es) = not (eqb t u) && standing t i es
