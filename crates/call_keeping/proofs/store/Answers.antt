use native.Mathlib.Omega.{arith}
use Rattle.call_keeping.proofs.Laws.{part_stored}
use Rattle.call_keeping.proofs.store.Goals as goal

pub returns : goal.returns
returns c = let a = c.args in part_stored a.memory.now a.table.now _ a.at _ c.copy_from_slice.ensures.after (omega arith)
