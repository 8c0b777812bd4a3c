use Rattle.sim_checklist_copies.proofs.Laws.{no_log, a-log}
use Rattle.std.proofs.Common.{refl}
use Rattle.sim_checklist_copies.proofs.class_table.Goals as goal

pub returns-then-figures-eq0 : goal.returns-then-figures-eq0
returns-then-figures-eq0 c = no_log _ _ _ _ _ _ refl c.if-figures-eq0.true c.right.ensures c.say.ensures

pub returns : goal.returns
returns c = a-log _ _ _ _ _ _ _ _ refl c.if-figures-eq0.false c.say-2.ensures c.class_lines.ensures c.classes_differ.ensures c.verdict.ensures
