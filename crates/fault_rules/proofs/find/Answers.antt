use Rattle.std.proofs.Common.{◌∙◌, arith}
use Rattle.fault_rules.proofs.Laws.{index_first, index_more, index_here, index_end}
use Rattle.fault_rules.proofs.find.Goals as goal

pub loop-i-init : goal.loop-i-init
loop-i-init c = index_first c.args.id c.args.ws.now c.args.n

pub loop-i-preserved : goal.loop-i-preserved
loop-i-preserved c = c.loop-i.invariant ∙ index_more c.args.id c.args.ws.now c.args.n c.loop-i.i (omega arith) c.if-ws-i.false

pub returns-then-ws-i : goal.returns-then-ws-i
returns-then-ws-i c = (omega (arith, c.loop-i.invariant, index_here c.args.id c.args.ws.now c.args.n c.loop-i.i (omega arith) c.if-ws-i.true), omega arith)

pub returns : goal.returns
returns c = omega (arith, c.loop-i.invariant, index_end c.args.id c.args.ws.now c.args.n c.loop-i.i (omega arith))
