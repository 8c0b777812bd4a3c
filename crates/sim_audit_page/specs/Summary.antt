-- The end of an audit's page, as pieces, from the account.
use Rattle.std.specs.Prelude.{ℕ, Bool, true, false, List, [], ◌++◌, Option, Some, None}
use Rattle.sim_sheet.specs.Sheet.{Piece, bytes, saying, line_of}
use Rattle.sim_audit_account.specs.declared.Account.{Account}
use Rattle.sim_audit_account.specs.Account.{passed}

abbrev pub first_of : Option ℕ → List Piece
first_of None = []
first_of (Some at) = line_of (bytes "the first: call at line") at

abbrev pub verdict_of : Bool → List Piece
verdict_of true = saying "PASS\n"
verdict_of false = saying "FAIL\n"

unfoldable pub summary_of : Account → List Piece
summary_of a =
    saying "\nAUDIT OF A RECORDED RUN\n" ++ (line_of (bytes "lines of the recording") a.lines ++ (line_of (bytes "calls played") a.calls
    ++ (line_of (bytes "answers compared") a.answers ++ (line_of (bytes "lines that are no call") a.bad ++ (line_of (bytes "differences") a.differ
    ++ (first_of a.first ++ verdict_of (passed a)))))))
