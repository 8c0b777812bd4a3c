use native.Mathlib.Omega.{arith}
use Rattle.call_pooling.proofs.Laws.{shrunk}
use Rattle.call_pooling.proofs.shrink.Goals as goal

-- src/lib.rt:18:1
pub returns : goal.returns
returns c = let a = c.args in
    shrunk a.pool.now c.move_down.new.ws c.store.new.memory a.rows.now a.start a.old a.end (omega arith) (omega arith) (omega arith) c.move_down.ensures c.store.ensures
