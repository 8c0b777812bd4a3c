use Rattle.sim_notes.proofs.Laws.{ends}
use Rattle.sim_notes.proofs.ended.Goals as goal

pub returns : goal.returns
returns c = ends _ _ _ _ _ _ _ _ _ _ _ _ _ c.cell.ensures c.min-n.ensures c.waiting_copies.ensures c.transits.ensures c.tallies.ensures c.marks.ensures c.stands.ensures
