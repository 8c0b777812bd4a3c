use Rattle.sim_notes.proofs.Laws.{waits_none, waits_more, waits_end}
use Rattle.std.proofs.Common.{arith}
use Rattle.sim_notes.proofs.waiting_copies.Goals as goal

pub loop-i-init : goal.loop-i-init
loop-i-init c = waits_none _ _

pub loop-i-preserved : goal.loop-i-preserved
loop-i-preserved c = waits_more _ _ _ _ _ c.loop-i.invariant c.waits.ensures

pub returns : goal.returns
returns c = waits_end _ _ _ _ _ (omega arith) (omega arith) c.loop-i.invariant
