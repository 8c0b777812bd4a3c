use Rattle.sim_notes.proofs.Laws.{landed, lost}
use Rattle.std.proofs.Common.{arith}
use Rattle.sim_notes.proofs.due_copy.Goals as goal

pub returns-then-cell : goal.returns-then-cell
returns-then-cell c = record { is = landed _ _ _ _ _ _ _ _ c.cell.ensures c.cell-2.ensures c.if-cell.true c.row.ensures; within = omega arith }

pub returns : goal.returns
returns c = record { is = lost _ _ _ _ _ _ _ _ c.cell.ensures c.cell-2.ensures c.if-cell.false c.drops.ensures; within = omega arith }
