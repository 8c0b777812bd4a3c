-- How a call is answered, in pieces of text, and what its outcome is.
use Rattle.std.specs.Prelude.{List, [], ◌∷◌, ℕ, Result, Ok, Err, Option, Some, None}
use Rattle.ask_refusal.specs.declared.Refusal.{Refusal}
use Rattle.ask_refusal.specs.Refusals as refusals
use Rattle.sim_sheet.specs.Sheet.{Piece, text, figure, bytes, newline}
use Rattle.sim_outcome.specs.declared.Outcome.{Outcome}
use Rattle.sim_outcome.specs.declared.Outcome.TheVariants.{Refused, Done}

-- ---- The line that answers a call

-- a label, and a number behind it
abbrev pub numbered : (label : List ℕ) → ℕ → List Piece
numbered label n = text label ∷ figure n 0 ∷ newline

-- the call, ` refused `, the question's number
abbrev pub refused_line : (call : List ℕ) → Refusal → List Piece
refused_line call refusal = text call ∷ numbered (bytes " refused ") (refusals.number_of refusal)

-- the call, ` ok`
abbrev pub done_line : {T : Type 0} → (call : List ℕ) → Result T Refusal → List Piece
done_line call (Ok v) = text call ∷ text (bytes " ok\n") ∷ []
done_line call (Err refusal) = refused_line call refusal

abbrev pub value_line : (call label : List ℕ) → Result ℕ Refusal → List Piece
value_line call label (Ok v) = numbered label v
value_line call label (Err refusal) = refused_line call refusal

-- without a number, a text of its own
abbrev pub found_line : (call label none : List ℕ) → Result (Option ℕ) Refusal → List Piece
found_line call label none (Ok (Some v)) = numbered label v
found_line call label none (Ok None) = text none ∷ []
found_line call label none (Err refusal) = refused_line call refusal

-- ---- The outcome of a call that counts nothing

abbrev pub plain : {T : Type 0} → Result T Refusal → Outcome
plain (Ok v) = Done
plain (Err refusal) = Refused refusal
