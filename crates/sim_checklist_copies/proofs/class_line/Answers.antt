use Rattle.sim_checklist_copies.proofs.Laws.{no_class, a-class}
use Rattle.sim_checklist_copies.proofs.class_line.Goals as goal

pub returns-then-has_none : goal.returns-then-has_none
returns-then-has_none c = no_class _ _ _ _ _ _ c.class-p.ensures c.has_none.ensures c.if-has_none.true

pub returns : goal.returns
returns c = a-class _ _ _ _ _ _ _ _ _ _ c.class-p.ensures c.has_none.ensures c.if-has_none.false c.decimal_right.ensures c.decimal_right-2.ensures c.decimal_right-3.ensures c.say.ensures
