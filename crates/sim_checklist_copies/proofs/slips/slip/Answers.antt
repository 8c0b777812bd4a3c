use Rattle.sim_sheet.proofs.Laws.{onward}
use Rattle.sim_checklist_copies.proofs.Laws.{sender_at, receiver_at}
use Rattle.sim_checklist_copies.specs.Copies.{slip_of}
use Rattle.sim_checklist_copies.proofs.slips.slip.Goals as goal

pub returns : goal.returns
unfolding slip_of
returns c = onward _ _ _ _ _ c.say.ensures
    (onward _ _ _ _ _ c.line.ensures
    (onward _ _ _ _ _ (sender_at _ _ c.args.figures.now c.args.t _ c.till-till.ensures c.as_sender.ensures) (receiver_at _ _ c.args.figures.now c.args.t _ c.till-till.ensures c.as_receiver.ensures)))
