use Rattle.sim_sheet.proofs.Laws.{judges}
use Rattle.sim_sheet.proofs.judged.Goals as goal

pub returns : goal.returns
returns c = judges _ _ _ _ _ _ _ _ c.line.ensures c.line-2.ensures c.verdict.ensures
