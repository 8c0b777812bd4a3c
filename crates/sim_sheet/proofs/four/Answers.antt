use Rattle.sim_sheet.proofs.Laws.{fourth}
use Rattle.sim_sheet.proofs.four.Goals as goal

pub returns : goal.returns
returns c = fourth _ _ _ _ _ _ _ _ _ _ c.decimal_right.ensures c.decimal_right-2.ensures c.decimal_right-3.ensures c.decimal_right-4.ensures c.say.ensures
