use Rattle.sim_sheet.proofs.Laws.{third}
use Rattle.sim_sheet.proofs.three.Goals as goal

pub returns : goal.returns
returns c = third _ _ _ _ _ _ _ _ _ _ c.label.ensures c.decimal_right.ensures c.decimal_right-2.ensures c.decimal_right-3.ensures c.say.ensures
