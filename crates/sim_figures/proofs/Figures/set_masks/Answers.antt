use Rattle.sim_figures.proofs.Laws.{masked_none, masked_more}
use Rattle.sim_figures.proofs.Figures.set_masks.Goals as goal

pub loop-t-init : goal.loop-t-init
loop-t-init c = masked_none _ _

pub loop-t-preserved : goal.loop-t-preserved
loop-t-preserved c = masked_more _ _ _ _ _ c.loop-t.invariant c.set_mask.ensures
