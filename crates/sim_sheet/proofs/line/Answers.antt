use Rattle.sim_sheet.proofs.Laws.{lined}
use Rattle.sim_sheet.proofs.line.Goals as goal

pub returns : goal.returns
returns c = lined _ _ _ _ _ _ c.label.ensures c.decimal_right.ensures c.say.ensures
