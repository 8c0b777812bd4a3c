use Rattle.sim_notes.proofs.Laws.{flushes}
use Rattle.sim_notes.proofs.flushed.Goals as goal

pub returns : goal.returns
returns c = flushes _ _ _ _ _ _ _ _ _ _ _ c.min-n.ensures c.rows_size.ensures c.part.ensures c.due_copies.ensures c.flushed.ensures
