use Rattle.sim_sheet.proofs.Laws.{onward, shown_pair}
use Rattle.sim_checklist_copies.specs.Copies.{order_part}
use Rattle.sim_checklist_copies.proofs.order.Goals as goal

pub returns : goal.returns
unfolding order_part
returns c = onward _ _ _ _ _ c.say.ensures
    (onward _ _ _ _ _ (shown_pair _ _ _ _ _ _ c.rows.ensures c.compared.ensures)
    (onward _ _ _ _ _ (shown_pair _ _ _ _ _ _ c.order.ensures c.compared-2.ensures) (shown_pair _ _ _ _ _ _ c.delivered.ensures c.compared-3.ensures)))
