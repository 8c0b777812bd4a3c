use Rattle.sim_notes.proofs.Laws.{transited}
use Rattle.sim_notes.proofs.transits.Goals as goal

pub returns : goal.returns
returns c = transited _ _ _ _ _ _ _ _ _ c.cell.ensures c.min-n.ensures c.wait_size.ensures c.part.ensures c.transits_of.ensures
