use Rattle.sim_sheet.proofs.Laws.{table_none, table_more, table_end}
use Rattle.std.proofs.Common.{arith}
use Rattle.sim_checklist_copies.proofs.slips.slips_to.Goals as goal

pub loop-t-init : goal.loop-t-init
loop-t-init c = table_none _ _

pub loop-t-preserved : goal.loop-t-preserved
loop-t-preserved c = table_more _ _ _ _ _ c.loop-t.invariant c.slip.ensures

pub returns : goal.returns
returns c = table_end _ _ _ _ _ (omega arith) (omega arith) c.loop-t.invariant
