use Rattle.sim_sheet.specs.Sheet.{Prints, table_of}
use Rattle.sim_checklist_copies.specs.Copies.{class_line}
use Rattle.sim_checklist_copies.proofs.class_lines.Given as goal

abbrev pub invariant-loop-class : goal.invariant-loop-class
invariant-loop-class l = Prints (table_of (class_line l.figures l.of) l.class) l.initial.page l.page
