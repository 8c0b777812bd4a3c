use Rattle.sim_sheet.specs.Sheet.{Prints, table_of}
use Rattle.sim_checklist_copies.specs.Copies.{slip_of}
use Rattle.sim_checklist_copies.proofs.slips.slips_to.Given as goal

abbrev pub invariant-loop-t : goal.invariant-loop-t
invariant-loop-t l = Prints (table_of (slip_of l.figures) l.t) l.initial.page l.page
