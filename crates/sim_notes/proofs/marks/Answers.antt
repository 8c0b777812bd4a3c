use Rattle.sim_notes.proofs.Laws.{total_none, total_more, total_end}
use Rattle.std.proofs.Common.{arith, refl}
use Rattle.sim_notes.proofs.marks.Goals as goal

pub loop-t-init : goal.loop-t-init
loop-t-init c = total_none _

pub loop-t-preserved : goal.loop-t-preserved
loop-t-preserved c = total_more _ _ _ _ _ c.loop-t.invariant c.cell-total.ensures refl

pub returns : goal.returns
returns c = total_end _ _ _ _ _ _ (omega arith) (omega arith) c.cell.ensures c.min-n.ensures c.loop-t.invariant
