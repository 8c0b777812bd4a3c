use Rattle.sim_sheet.proofs.Laws.{judged_by}
use Rattle.sim_sheet.proofs.compared.Goals as goal

pub returns : goal.returns
returns c = judged_by _ _ _ _ _ _ _ c.agrees.ensures c.judged.ensures
