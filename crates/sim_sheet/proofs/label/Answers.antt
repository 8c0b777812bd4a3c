use Rattle.sim_sheet.proofs.Laws.{padded}
use Rattle.sim_sheet.proofs.label.Goals as goal

pub returns : goal.returns
returns c = padded _ _ _ _ _ _ c.saturating_sub.ensures c.say.ensures c.spaces.ensures
