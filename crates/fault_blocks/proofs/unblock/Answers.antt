use Rattle.std.proofs.Common.{arith}
use Rattle.fault_blocks.proofs.Laws.{begin, skip, move, finish}
use Rattle.fault_blocks.proofs.unblock.Goals as goal
use Rattle.fault_blocks.proofs.unblock.Goals.{then-not-joins, else-not-joins}

pub loop-i-init : goal.loop-i-init
loop-i-init c = begin _ _ _ _

pub loop-i-preserved : goal.loop-i-preserved
loop-i-preserved c =
    elim c.if-not-joins.branch [
      | then-not-joins w ↦ rw (w.ws-is, w.k-is)
          (move c.args.from c.args.to c.args.n c.args.ws.now c.loop-i.i c.loop-i.k c.loop-i.ws (omega arith) c.loop-i.invariant _ _ c.get-e.ensures c.joins.ensures _
          w.if-not-joins.true w.put.auto.ws w.put.ensures)
      | else-not-joins w ↦ rw (w.ws-is, w.k-is)
          (skip c.args.from c.args.to c.args.n c.args.ws.now c.loop-i.i c.loop-i.k c.loop-i.ws (omega arith) c.loop-i.invariant _ _ c.get-e.ensures c.joins.ensures w.if-not-joins.false)
    ]

pub returns : goal.returns
returns c = finish _ _ _ _ _ _ _ (omega arith) c.loop-i.invariant
