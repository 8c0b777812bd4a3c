use Rattle.ask_refusal.proofs.Laws.{left_by}
use native.Mathlib.Omega.{arith}
use Rattle.call_waiting.proofs.Laws.{copies_refused, copies_net, copies_room, copies_done}
use Rattle.call_waiting.proofs.waiting_copies.Goals as goal

pub returns-in_err-copies_refusal : goal.returns-in_err-copies_refusal
returns-in_err-copies_refusal c =
    rw (left_by c.from_residual.result c.from_residual.ensures.1) (copies_refused _ _ _ _ _ (c.in_err-copies_refusal.ensures))

pub bounds-net-1 : goal.bounds-net-1
bounds-net-1 c = let a = c.args in omega (arith, copies_net a.setup.now a.net.now a.waiting.now a.out.now c.in_ok-copies_refusal.ensures)

pub overflow_mul-copies : goal.overflow_mul-copies
overflow_mul-copies c = let a = c.args in omega (arith, (copies_room a.setup.now a.net.now a.waiting.now a.out.now c.in_ok-copies_refusal.ensures).0)

pub copy_front-requires : goal.copy_front-requires
copy_front-requires c = let a = c.args in
    let p = copies_room a.setup.now a.net.now a.waiting.now a.out.now c.in_ok-copies_refusal.ensures in
    (omega (arith, p.0), p.1)

pub returns : goal.returns
returns c = let a = c.args in
    copies_done a.setup.now a.net.now a.waiting.now a.out.now c.in_ok-copies_refusal.ensures _ c.copy_front.ensures
