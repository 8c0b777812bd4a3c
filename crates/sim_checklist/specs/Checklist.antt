-- THE WHOLE CHECKLIST, from the figures: the head, parts A to E, the closing slips.
use Rattle.std.specs.Prelude.{List, ◌++◌}
use Rattle.sim_figures.specs.declared.Figures.{Figures}
use Rattle.sim_sheet.specs.Sheet.{Piece}
use Rattle.sim_checklist_counts.specs.Counts.{head_of, recipients_of, marks_part, drops_part, senders_part}
use Rattle.sim_checklist_copies.specs.Copies.{copies_part, order_part, tables_part}

unfoldable pub sheet_of : Figures → List Piece
sheet_of l = head_of l ++ (recipients_of l ++ (marks_part l ++ (drops_part l ++ (senders_part l ++ (copies_part l ++ (order_part l ++ tables_part l))))))
