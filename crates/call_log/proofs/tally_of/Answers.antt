use Rattle.ask_refusal.proofs.Laws.{left_by}
use Rattle.call_log.proofs.Laws.{tally_refused, tally_room, tally_done}
use Rattle.call_log.proofs.tally_of.Goals as goal

pub returns-in_err-tally_refusal : goal.returns-in_err-tally_refusal
returns-in_err-tally_refusal c =
    rw (left_by c.from_residual.result c.from_residual.ensures.1) (tally_refused _ _ _ _ (c.in_err-tally_refusal.ensures))

pub class_tally-requires : goal.class_tally-requires
class_tally-requires c = tally_room _ _ _ (c.in_ok-tally_refusal.ensures)

pub returns : goal.returns
returns c = tally_done _ _ _ (c.in_ok-tally_refusal.ensures) _ c.class_tally.ensures
