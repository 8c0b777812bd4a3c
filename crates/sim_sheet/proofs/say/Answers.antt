use Rattle.sim_sheet.proofs.Laws.{said}
use Rattle.sim_sheet.proofs.say.Goals as goal

pub returns : goal.returns
returns c = said _ _ _ c.text.ensures
