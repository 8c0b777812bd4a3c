use Rattle.sim_sheet.proofs.Laws.{table_none, table_more, table_end}
use Rattle.std.proofs.Common.{arith}
use Rattle.sim_checklist_copies.proofs.class_lines.Goals as goal

pub loop-class-init : goal.loop-class-init
loop-class-init c = table_none _ _

pub loop-class-preserved : goal.loop-class-preserved
loop-class-preserved c = table_more _ _ _ _ _ c.loop-class.invariant c.class_line.ensures

pub returns : goal.returns
returns c = table_end _ _ _ _ _ (omega arith) (omega arith) c.loop-class.invariant
