use Rattle.sim_checklist_counts.proofs.Laws.{sender}
use Rattle.sim_checklist_counts.proofs.sender_row.Goals as goal

pub returns : goal.returns
returns c = sender _ _ _ _ _ _ c.till-till.ensures c.decimal_right.ensures c.four.ensures
