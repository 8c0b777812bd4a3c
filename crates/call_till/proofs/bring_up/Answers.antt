use Rattle.call_till.proofs.Laws.{up_room}
use Rattle.call_till.proofs.Ways.{up_refused, up_done}
use native.Mathlib.Omega.{arith}
use mathlib.Core.Path.{refl, sym}
use Rattle.ask_refusal.proofs.Laws.{number_not_0, left_by}
use Rattle.call_till.proofs.bring_up.Goals as goal

pub returns-in_err-up : goal.returns-in_err-up
returns-in_err-up c = let a = c.args in
    rw (left_by c.from_residual.result c.from_residual.ensures.1) (up_refused a.setup.now a.tills.now a.t a.shards _ c.in_err-up.ensures (number_not_0 _))

pub overflow_mul-t : goal.overflow_mul-t
overflow_mul-t c = omega (arith, up_room _ _ _ _ (sym c.in_ok-up.ensures))

pub put_till-requires : goal.put_till-requires
put_till-requires c = omega (arith, up_room _ _ _ _ (sym c.in_ok-up.ensures))

pub returns : goal.returns
returns c = let a = c.args in
    up_done a.setup.now a.tills.now a.t a.shards _ c.in_ok-up.ensures refl _ c.put_till.ensures
