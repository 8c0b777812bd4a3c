use Rattle.sim_notes.proofs.Laws.{bad_noted, taken_noted}
use Rattle.sim_notes.proofs.after.Goals as goal

pub returns-in-Bad : goal.returns-in-Bad
returns-in-Bad c = bad_noted _ _ _ _ _ _ _ _ _ c.in-Bad.is

pub returns-in_default : goal.returns-in_default
returns-in_default c =
    taken_noted _ _ _ _ _ _ _ _ _ _ _ _ c.in_default.not-Bad c.in_default.not-Refused c.marks.ensures c.saturating_sub-gone.ensures c.taken.ensures
