use Rattle.sim_sheet.proofs.Laws.{onward}
use Rattle.sim_checklist_copies.specs.Copies.{sender_drops}
use Rattle.sim_checklist_copies.proofs.slips.sender_drops.Goals as goal

pub returns : goal.returns
unfolding sender_drops
returns c = onward _ _ _ _ _ c.line.ensures (onward _ _ _ _ _ c.line-2.ensures c.line-3.ensures)
