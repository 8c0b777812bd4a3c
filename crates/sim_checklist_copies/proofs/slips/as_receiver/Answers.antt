use Rattle.sim_sheet.proofs.Laws.{onward}
use Rattle.sim_checklist_copies.specs.Copies.{as_receiver}
use Rattle.sim_checklist_copies.proofs.slips.as_receiver.Goals as goal

pub returns : goal.returns
unfolding as_receiver
returns c = onward _ _ _ _ _ c.line.ensures (onward _ _ _ _ _ c.line-2.ensures c.line-3.ensures)
