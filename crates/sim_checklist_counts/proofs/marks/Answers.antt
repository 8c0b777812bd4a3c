use Rattle.sim_sheet.proofs.Laws.{onward, shown_pair, shown_bound}
use Rattle.sim_checklist_counts.specs.Counts.{marks_part}
use Rattle.sim_checklist_counts.proofs.marks.Goals as goal

pub returns : goal.returns
unfolding marks_part
returns c = onward _ _ _ _ _ c.say.ensures
    (onward _ _ _ _ _ c.line.ensures
    (onward _ _ _ _ _ c.line-2.ensures
    (onward _ _ _ _ _ c.line-3.ensures (onward _ _ _ _ _ (shown_pair _ _ _ _ _ _ c.marks.ensures c.compared.ensures) (shown_bound _ _ _ _ _ _ c.cleared.ensures c.bounded.ensures)))))
