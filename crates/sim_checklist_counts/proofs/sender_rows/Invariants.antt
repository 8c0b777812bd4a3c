use Rattle.sim_sheet.specs.Sheet.{Prints, table_of}
use Rattle.sim_checklist_counts.specs.Counts.{sender_row}
use Rattle.sim_checklist_counts.proofs.sender_rows.Given as goal

abbrev pub invariant-loop-t : goal.invariant-loop-t
invariant-loop-t l = Prints (table_of (sender_row l.figures) l.t) l.initial.page l.page
