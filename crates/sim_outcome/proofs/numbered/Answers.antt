use Rattle.sim_sheet.proofs.Laws.{onward, figured}
use Rattle.sim_outcome.proofs.numbered.Goals as goal

pub returns : goal.returns
returns c = onward _ _ _ _ _ c.say.ensures (onward _ _ _ _ _ (figured _ _ _ _ c.decimal.ensures) c.say-2.ensures)
