use Rattle.call_till.proofs.Laws.{handlers_room}
use Rattle.call_till.proofs.Ways.{handlers_refused, handlers_done}
use native.Mathlib.Omega.{arith}
use mathlib.Core.Path.{refl, sym}
use Rattle.ask_refusal.proofs.Laws.{number_not_0, left_by}
use Rattle.call_till.proofs.set_handlers.Goals as goal

pub returns-in_err-handlers : goal.returns-in_err-handlers
returns-in_err-handlers c = let a = c.args in
    rw (left_by c.from_residual.result c.from_residual.ensures.1) (handlers_refused a.setup.now a.tills.now a.t a.gossip a.host _ c.in_err-handlers.ensures (number_not_0 _))

pub overflow_mul-b : goal.overflow_mul-b
overflow_mul-b c = omega (arith, handlers_room _ _ _ _ _ (sym c.in_ok-handlers.ensures))

pub get-till-requires : goal.get-till-requires
get-till-requires c = omega (arith, handlers_room _ _ _ _ _ (sym c.in_ok-handlers.ensures))

pub put-requires : goal.put-requires
put-requires c = omega (arith, handlers_room _ _ _ _ _ (sym c.in_ok-handlers.ensures))

pub returns : goal.returns
returns c = let a = c.args in
    handlers_done a.setup.now a.tills.now a.t a.gossip a.host _ c.in_ok-handlers.ensures refl
    (handlers_room _ _ _ _ _ (sym c.in_ok-handlers.ensures)) _ c.get-till.ensures _ c.put.ensures
