use Rattle.sim_notes.proofs.Laws.{tallied}
use Rattle.sim_notes.proofs.tallies.Goals as goal

pub returns : goal.returns
returns c = tallied _ _ _ _ _ _ c.log_size.ensures c.part.ensures c.tallies_of.ensures
