use Rattle.sim_sheet.proofs.Laws.{onward}
use Rattle.sim_checklist_copies.specs.Copies.{as_sender}
use Rattle.sim_checklist_copies.proofs.slips.as_sender.Goals as goal

pub returns : goal.returns
unfolding as_sender
returns c = onward _ _ _ _ _ c.line.ensures (onward _ _ _ _ _ c.line-2.ensures c.sender_drops.ensures)
