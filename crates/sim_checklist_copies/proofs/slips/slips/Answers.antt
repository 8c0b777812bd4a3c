use Rattle.sim_sheet.proofs.Laws.{onward, shown_table}
use Rattle.sim_checklist_copies.specs.Copies.{slips_part}
use Rattle.sim_checklist_copies.proofs.slips.slips.Goals as goal

pub returns : goal.returns
unfolding slips_part
returns c = onward _ _ _ _ _ c.say.ensures (shown_table _ _ _ _ _ c.tills.ensures c.slips_to.ensures)
