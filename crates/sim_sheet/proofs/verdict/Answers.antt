use Rattle.sim_sheet.proofs.Laws.{onward}
use Rattle.sim_sheet.proofs.verdict.Goals as goal

pub returns : goal.returns
returns c = onward _ _ _ _ _ c.verdict_in.ensures c.say.ensures
