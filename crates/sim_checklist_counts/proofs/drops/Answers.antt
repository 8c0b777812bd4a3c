use Rattle.sim_sheet.proofs.Laws.{onward, shown_pair}
use Rattle.sim_checklist_counts.specs.Counts.{drops_part}
use Rattle.sim_checklist_counts.proofs.drops.Goals as goal

pub returns : goal.returns
unfolding drops_part
returns c = onward _ _ _ _ _ c.say.ensures
    (onward _ _ _ _ _ c.line.ensures
    (onward _ _ _ _ _ c.line-2.ensures
    (onward _ _ _ _ _ c.line-3.ensures (onward _ _ _ _ _ (shown_pair _ _ _ _ _ _ c.at_accept.ensures c.compared.ensures) (shown_pair _ _ _ _ _ _ c.flush_drops.ensures c.compared-2.ensures)))))
