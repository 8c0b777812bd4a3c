use Rattle.ask_refusal.proofs.Laws.{left_by}
use native.Mathlib.Omega.{arith}
use Rattle.call_flush.proofs.Call.{refused_by_lem, net_long, rows_room, refused_room, ready_by, done_by}
use Rattle.call_flush.proofs.flush.Goals as goal

pub returns-in_err-refusal : goal.returns-in_err-refusal
returns-in_err-refusal c =
    rw (left_by c.from_residual.result c.from_residual.ensures.1) (refused_by_lem _ _ _ _ _ _ _ _ _ _ (c.in_err-refusal.ensures))

pub bounds-net-1 : goal.bounds-net-1
bounds-net-1 c = let a = c.args in
    omega (arith, net_long a.setup.now a.net.now a.tills.now a.seen.now a.waiting.now a.blocks.now a.log.now a.at c.in_ok-refusal.ensures)

pub due-k-requires : goal.due-k-requires
due-k-requires c = let a = c.args in
    rows_room a.setup.now a.net.now a.tills.now a.seen.now a.waiting.now a.blocks.now a.log.now a.at c.in_ok-refusal.ensures

pub returns-then-out-k : goal.returns-then-out-k
returns-then-out-k c = let a = c.args in
    refused_room a.setup.now a.net.now a.tills.now a.seen.now a.waiting.now a.blocks.now a.log.now a.at c.in_ok-refusal.ensures
    a.out.now _ c.due-k.ensures c.if-out-k.true

pub work-requires : goal.work-requires
work-requires c = let a = c.args in
    ready_by a.setup.now a.net.now a.tills.now a.seen.now a.waiting.now a.blocks.now a.log.now a.at c.in_ok-refusal.ensures
    a.out.now _ c.due-k.ensures c.if-out-k.false _ c.extents.ensures

pub returns : goal.returns
returns c = let a = c.args in
    done_by a.setup.now a.net.now a.tills.now a.seen.now a.waiting.now a.blocks.now a.log.now a.at c.in_ok-refusal.ensures
    a.out.now _ c.due-k.ensures c.if-out-k.false _ c.extents.ensures _ _ _ _ _ _ c.work.ensures
