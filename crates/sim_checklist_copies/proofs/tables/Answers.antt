use Rattle.sim_sheet.proofs.Laws.{onward}
use Rattle.sim_checklist_copies.specs.Copies.{tables_part}
use Rattle.sim_checklist_copies.proofs.tables.Goals as goal

pub returns : goal.returns
unfolding tables_part
returns c = onward _ _ _ _ _ c.say.ensures (onward _ _ _ _ _ c.class_table.ensures (onward _ _ _ _ _ c.say-2.ensures (onward _ _ _ _ _ c.class_table-2.ensures c.slips.ensures)))
