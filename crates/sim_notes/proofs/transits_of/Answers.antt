use Rattle.sim_notes.proofs.Laws.{transits_none, transits_more, transits_end}
use Rattle.std.proofs.Common.{arith}
use Rattle.sim_notes.proofs.transits_of.Goals as goal

pub loop-t-init : goal.loop-t-init
loop-t-init c = transits_none _ _ _ _

pub loop-t-preserved : goal.loop-t-preserved
loop-t-preserved c = transits_more _ _ _ _ _ _ _ c.loop-t.invariant c.transit.ensures

pub returns : goal.returns
returns c = transits_end _ _ _ _ _ _ _ (omega arith) (omega arith) c.loop-t.invariant
