use Rattle.sim_sheet.proofs.Laws.{pushed}
use Rattle.sim_sheet.proofs.right.Goals as goal

pub returns : goal.returns
returns c = pushed _ _ _ _ _ _ c.saturating_sub.ensures c.spaces.ensures c.say.ensures
