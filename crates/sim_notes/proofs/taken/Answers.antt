use Rattle.sim_notes.proofs.Laws.{flush_noted}
use Rattle.sim_notes.proofs.taken.Goals as goal

pub returns-in-Flush-Flushed : goal.returns-in-Flush-Flushed
returns-in-Flush-Flushed c = flush_noted _ _ _ _ _ _ _ _ _ _ _ c.in-Flush-Flushed.is-0 c.in-Flush-Flushed.is-1 c.flushed.ensures
