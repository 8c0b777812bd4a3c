use native.Mathlib.Omega.{arith}
use Rattle.call_pooling.proofs.Laws.{grown}
use Rattle.call_pooling.proofs.grow.Goals as goal

-- src/lib.rt:8:1
pub returns : goal.returns
returns c = let a = c.args in
    grown a.pool.now c.move_up.new.ws c.store.new.memory a.rows.now a.start a.old a.end (omega arith) (omega arith) (omega arith) c.move_up.ensures c.store.ensures
