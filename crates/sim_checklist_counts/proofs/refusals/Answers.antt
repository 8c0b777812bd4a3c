use Rattle.sim_sheet.proofs.Laws.{table_none, table_more, table_end}
use Rattle.std.proofs.Common.{arith}
use Rattle.sim_checklist_counts.proofs.refusals.Goals as goal

pub loop-n-init : goal.loop-n-init
loop-n-init c = table_none _ _

pub loop-n-preserved : goal.loop-n-preserved
loop-n-preserved c = table_more _ _ _ _ _ c.loop-n.invariant c.refusal.ensures

pub returns : goal.returns
returns c = table_end _ _ _ _ _ (omega arith) (omega arith) c.loop-n.invariant
