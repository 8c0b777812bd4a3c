use Rattle.sim_sheet.proofs.Laws.{onward, shown_three, shown_verdict}
use Rattle.std.proofs.Common.{ap, ◌∙◌}
use Rattle.sim_checklist_copies.specs.Copies.{columns_part}
use Rattle.sim_comparison.specs.declared.Pair.{Pair}
use Rattle.sim_comparison.specs.Compared.{agreed}
use Rattle.sim_checklist_copies.proofs.columns.Goals as goal

pub returns : goal.returns
unfolding columns_part
returns c = onward _ _ _ _ _ c.say.ensures
    (onward _ _ _ _ _ c.say-2.ensures
    (onward _ _ _ _ _ c.kinds.ensures
    (onward _ _ _ _ _ c.kinds-2.ensures
    (onward _ _ _ _ _ c.kinds-3.ensures
    (onward _ _ _ _ _ (shown_three _ _ _ _ _ _ _ _ _ (ap (λ (x : Pair). x.left) c.originals-o.ensures) (ap (λ (x : Pair). x.left) c.echoes-e.ensures)
    (ap (λ (x : Pair). x.left) c.copies-all.ensures) c.three.ensures)
    (onward _ _ _ _ _ (shown_three _ _ _ _ _ _ _ _ _ (ap (λ (x : Pair). x.right) c.originals-o.ensures) (ap (λ (x : Pair). x.right) c.echoes-e.ensures)
    (ap (λ (x : Pair). x.right) c.copies-all.ensures) c.three-2.ensures)
    (onward _ _ _ _ _ c.label.ensures
    (onward _ _ _ _ _ (shown_verdict _ _ _ _ _ (c.agrees.ensures ∙ ap agreed c.originals-o.ensures) c.verdict_in.ensures)
    (onward _ _ _ _ _ (shown_verdict _ _ _ _ _ (c.agrees-2.ensures ∙ ap agreed c.echoes-e.ensures) c.verdict_in-2.ensures)
    (onward _ _ _ _ _ (shown_verdict _ _ _ _ _ (c.agrees-3.ensures ∙ ap agreed c.copies-all.ensures) c.verdict_in-3.ensures) (onward _ _ _ _ _ c.say-3.ensures c.say-4.ensures)))))))))))
