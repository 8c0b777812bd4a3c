use Rattle.sim_sheet.proofs.Laws.{onward, shown_pair}
use Rattle.sim_checklist_counts.specs.Counts.{recipients_of}
use Rattle.sim_checklist_counts.proofs.recipients.Goals as goal

pub returns : goal.returns
unfolding recipients_of
returns c = onward _ _ _ _ _ c.say.ensures
    (onward _ _ _ _ _ c.line.ensures
    (onward _ _ _ _ _ c.line-2.ensures
    (onward _ _ _ _ _ c.line-3.ensures (onward _ _ _ _ _ c.line-4.ensures (onward _ _ _ _ _ c.line-5.ensures (shown_pair _ _ _ _ _ _ c.counts.ensures c.compared.ensures))))))
