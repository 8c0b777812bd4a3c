use Rattle.sim_sheet.proofs.Laws.{judged_by}
use Rattle.sim_sheet.proofs.bounded.Goals as goal

pub returns : goal.returns
returns c = judged_by _ _ _ _ _ _ _ c.is_within.ensures c.judged.ensures
