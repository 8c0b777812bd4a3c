use Rattle.std.proofs.Common.{sym, ◌∙◌, arith}
use Rattle.fault_blocks.proofs.Laws.{blocked_first, blocked_here, blocked_more, blocked_end}
use Rattle.fault_blocks.proofs.is_blocked.Goals as goal

pub loop-i-init : goal.loop-i-init
loop-i-init c = let a = c.args in blocked_first a.from a.to a.at a.ws.now a.n

pub returns-then-stops : goal.returns-then-stops
returns-then-stops c = let a = c.args in blocked_here a.from a.to a.at a.ws.now a.n c.loop-i.i (omega arith) _ _ c.get.ensures c.stops.ensures c.if-stops.true ∙ sym c.loop-i.invariant

pub loop-i-preserved : goal.loop-i-preserved
loop-i-preserved c = let a = c.args in c.loop-i.invariant ∙ blocked_more a.from a.to a.at a.ws.now a.n c.loop-i.i (omega arith) _ _ c.get.ensures c.stops.ensures c.if-stops.false

pub returns : goal.returns
returns c = let a = c.args in blocked_end a.from a.to a.at a.ws.now a.n c.loop-i.i (omega arith) ∙ sym c.loop-i.invariant
