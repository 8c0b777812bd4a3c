use Rattle.sim_sheet.proofs.Laws.{onward}
use Rattle.sim_checklist.specs.Checklist.{sheet_of}
use Rattle.sim_checklist.proofs.print.Goals as goal

pub returns : goal.returns
unfolding sheet_of
returns c = onward _ _ _ _ _ c.head.ensures
    (onward _ _ _ _ _ c.recipients.ensures
    (onward _ _ _ _ _ c.marks.ensures (onward _ _ _ _ _ c.drops.ensures (onward _ _ _ _ _ c.senders.ensures (onward _ _ _ _ _ c.copies.ensures (onward _ _ _ _ _ c.order.ensures c.tables.ensures))))))
