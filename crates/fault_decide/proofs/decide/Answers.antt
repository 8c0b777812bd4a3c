use Rattle.std.proofs.Common.{arith}
use Rattle.fault_decide.proofs.Laws.{hit, missed, ended}
use Rattle.fault_decide.proofs.decide.Goals as goal

pub returns-then-row_drops : goal.returns-then-row_drops
returns-then-row_drops c = let r = c.row_drops in let l = c.loop-i in
    hit c.args.ws.now c.args.n c.args.m c.args.c.now l.i l.c l.invariant (omega arith) r.new.c r.ensures.1 r.ensures.0 c.if-row_drops.true

pub loop-i-preserved : goal.loop-i-preserved
loop-i-preserved c = let r = c.row_drops in let l = c.loop-i in
    missed c.args.ws.now c.args.n c.args.m c.args.c.now l.i l.c l.invariant (omega arith) r.new.c r.ensures.1 r.ensures.0 c.if-row_drops.false

pub returns : goal.returns
returns c = let l = c.loop-i in ended c.args.ws.now c.args.n c.args.m c.args.c.now l.i l.c l.invariant (omega (arith, l.auto.i-end))
