use Rattle.ask_refusal.proofs.Laws.{left_by}
use native.Mathlib.Omega.{arith}
use Rattle.call_waiting.proofs.Laws.{transit_refused, transit_done, passed, net_long, rows_room}
use Rattle.call_waiting.proofs.in_transit.Goals as goal

pub returns-in_err-transit_refusal : goal.returns-in_err-transit_refusal
returns-in_err-transit_refusal c =
    rw (left_by c.from_residual.result c.from_residual.ensures.1) (transit_refused _ _ _ _ _ (c.in_err-transit_refusal.ensures))

pub bounds-net-1 : goal.bounds-net-1
bounds-net-1 c = let a = c.args in
    omega (arith, net_long a.setup.now a.net.now a.waiting.now (passed a.setup.now a.net.now a.waiting.now _ c.in_ok-transit_refusal.ensures).0)

pub count_to-requires : goal.count_to-requires
count_to-requires c = let a = c.args in
    rows_room a.setup.now a.net.now a.waiting.now (passed a.setup.now a.net.now a.waiting.now _ c.in_ok-transit_refusal.ensures).0

pub returns : goal.returns
returns c = let a = c.args in transit_done a.setup.now a.net.now a.waiting.now a.t c.in_ok-transit_refusal.ensures _ c.count_to.ensures
