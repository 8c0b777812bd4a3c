use Rattle.sim_checklist_copies.specs.Copies.{kinds_of}
use Rattle.sim_checklist_copies.proofs.kinds.Goals as goal

pub returns : goal.returns
unfolding kinds_of
returns c = c.three.ensures
