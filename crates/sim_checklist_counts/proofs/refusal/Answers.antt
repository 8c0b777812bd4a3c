use Rattle.sim_checklist_counts.proofs.Laws.{unasked, asked}
use Rattle.sim_checklist_counts.proofs.refusal.Goals as goal

pub returns-then-n-eq0 : goal.returns-then-n-eq0
returns-then-n-eq0 c = unasked _ _ _ _ c.refused_by-n.ensures c.if-n-eq0.true

pub returns : goal.returns
returns c = asked _ _ _ _ _ _ _ _ c.refused_by-n.ensures c.if-n-eq0.false c.say.ensures c.decimal_right.ensures c.decimal_right-2.ensures c.say-2.ensures
