use Rattle.sim_acts.proofs.Laws.{noted}
use Rattle.sim_acts.proofs.call.Goals as goal

pub returns : goal.returns
returns c = noted _ _ _ _ _ _ _ _ _ _ _ _ c.act-told.result _ c.noted_before-stood.ensures.figures c.noted_before-stood.ensures.stood c.after.ensures
