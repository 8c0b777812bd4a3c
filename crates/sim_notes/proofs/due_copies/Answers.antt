use Rattle.sim_notes.proofs.Laws.{due_none, due_more, due_end}
use Rattle.std.proofs.Common.{arith}
use Rattle.sim_notes.proofs.due_copies.Goals as goal

pub loop-i-init : goal.loop-i-init
loop-i-init c = record { within = omega arith; is = due_none _ _ _ }

pub due_copy-row-requires : goal.due_copy-row-requires
due_copy-row-requires c = (omega arith, omega arith)

pub loop-i-preserved : goal.loop-i-preserved
loop-i-preserved c = record { within = omega arith; is = due_more _ _ _ _ _ _ _ _ c.loop-i.invariant.is c.due_copy-row.ensures.is }

pub returns : goal.returns
returns c = due_end _ _ _ _ _ _ _ (omega arith) (omega arith) c.loop-i.invariant.is
