use Rattle.sim_sheet.proofs.Laws.{onward, shown}
use Rattle.sim_checklist_counts.specs.Counts.{head_of}
use Rattle.sim_checklist_counts.proofs.head.Goals as goal

pub returns : goal.returns
unfolding head_of
returns c = onward _ _ _ _ _ c.say.ensures
    (onward _ _ _ _ _ c.line.ensures
    (onward _ _ _ _ _ c.line-2.ensures
    (onward _ _ _ _ _ c.line-3.ensures
    (onward _ _ _ _ _ (shown _ _ _ _ _ c.refused.ensures c.line-4.ensures) (onward _ _ _ _ _ c.refusals.ensures (shown _ _ _ _ _ c.differ.ensures c.line-5.ensures))))))
