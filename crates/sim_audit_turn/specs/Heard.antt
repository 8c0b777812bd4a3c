-- What the account notes of a line of the recording.
use Rattle.std.specs.Prelude.{ℕ, Bool, if◌then◌else◌, List, length}
use Rattle.sim_spelling.specs.Spelling.{part_of}
use Rattle.sim_audit_lines.specs.declared.LineKind.{LineKind}
use Rattle.sim_audit_lines.specs.declared.LineKind.TheVariants.{Call, Answer, Remark}
use Rattle.sim_audit_lines.specs.Recorded.{line_kind}
use Rattle.sim_audit_account.specs.declared.Account.{Account}
use Rattle.sim_audit_account.specs.Account.{line_note, call_note, played_note}
use Rattle.sim_audit_compare.specs.Compared.{compared_note, ended_note}

-- an answer is compared with the book's; a call ends the book's answers to the last one, and its words stand behind `>`
abbrev pub heard_note : LineKind → Account → (told book : List ℕ) → Account
heard_note Answer a told book = compared_note a told book
heard_note Call a told book = call_note (ended_note a book) (part_of told 1 (length told))
heard_note Remark a told book = a

abbrev pub played_if : Bool → Account → Account
played_if b a = if b then played_note a else a

-- a line, where the book's answers to the last call are known
abbrev pub turn_note : (is_played : Bool) → Account → (told book : List ℕ) → Account
turn_note b a told book = played_if b (heard_note (line_kind told) (line_note a) told book)
