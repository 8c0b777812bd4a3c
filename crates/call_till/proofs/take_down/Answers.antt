use Rattle.call_till.proofs.Laws.{down_room}
use Rattle.call_till.proofs.Ways.{down_refused, down_done}
use native.Mathlib.Omega.{arith}
use mathlib.Core.Path.{refl, sym}
use Rattle.ask_refusal.proofs.Laws.{number_not_0, left_by}
use Rattle.call_till.proofs.take_down.Goals as goal

pub returns-in_err-down : goal.returns-in_err-down
returns-in_err-down c = let a = c.args in
    rw (left_by c.from_residual.result c.from_residual.ensures.1) (down_refused a.setup.now a.tills.now a.seen.now a.t _ c.in_err-down.ensures (number_not_0 _))

pub overflow_mul-t : goal.overflow_mul-t
overflow_mul-t c = omega (arith, down_room _ _ _ _ (sym c.in_ok-down.ensures))

pub put_till-requires : goal.put_till-requires
put_till-requires c = omega (arith, down_room _ _ _ _ (sym c.in_ok-down.ensures))

pub returns : goal.returns
returns c = let a = c.args in
    down_done a.setup.now a.tills.now a.seen.now a.t _ c.in_ok-down.ensures refl _ _ c.put_till.ensures
    c.put.ensures
