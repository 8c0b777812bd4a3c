use Rattle.sim_sheet.proofs.Laws.{onward, shown_pair}
use Rattle.sim_checklist_copies.specs.Copies.{copies_part}
use Rattle.sim_checklist_copies.proofs.copies.Goals as goal

pub returns : goal.returns
unfolding copies_part
returns c = onward _ _ _ _ _ c.columns.ensures (shown_pair _ _ _ _ _ _ c.by_tills.ensures c.compared.ensures)
