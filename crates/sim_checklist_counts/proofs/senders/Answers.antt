use Rattle.sim_sheet.proofs.Laws.{onward, shown_four, shown_none, shown_table}
use mathlib.Core.Path.{ap, refl}
use Rattle.sim_comparison.specs.declared.Pair.{Pair}
use Rattle.sim_checklist_counts.specs.Counts.{senders_part}
use Rattle.sim_checklist_counts.proofs.senders.Goals as goal

pub returns : goal.returns
unfolding senders_part
returns c = onward _ _ _ _ _ c.say.ensures
    (onward _ _ _ _ _ c.say-2.ensures
    (onward _ _ _ _ _ (shown_table _ _ _ _ _ c.tills.ensures c.sender_rows.ensures)
    (onward _ _ _ _ _ c.say-3.ensures
    (onward _ _ _ _ _ (shown_four _ _ _ _ _ _ _ _ _ _ c.total.ensures c.total-2.ensures c.total-3.ensures c.total-4.ensures c.four.ensures)
    (onward _ _ _ _ _ c.say-4.ensures
    (onward _ _ _ _ _ (shown_four _ _ _ _ _ _ _ _ _ _ refl refl refl (ap (λ (x : Pair). x.left) c.flush_drops-flush.ensures) c.four-2.ensures)
    (shown_none _ _ _ _ c.senders_differ.ensures c.verdict.ensures)))))))
