use Rattle.ask_refusal.proofs.Laws.{left_by}
use native.Mathlib.Omega.{arith}
use Rattle.call_log.proofs.Laws.{drain_refused, head_room, setup_long, drain_room, drain_done}
use Rattle.call_log.proofs.drain.Goals as goal

pub returns-in_err-drain_refusal : goal.returns-in_err-drain_refusal
returns-in_err-drain_refusal c =
    rw (left_by c.from_residual.result c.from_residual.ensures.1) (drain_refused _ _ _ _ (c.in_err-drain_refusal.ensures))

pub forced-forced-requires : goal.forced-forced-requires
forced-forced-requires c = let a = c.args in head_room a.setup.now a.log.now a.out.now (c.in_ok-drain_refusal.ensures)

pub tallies-tallies-requires : goal.tallies-tallies-requires
tallies-tallies-requires c = let a = c.args in head_room a.setup.now a.log.now a.out.now (c.in_ok-drain_refusal.ensures)

pub bounds-setup-6 : goal.bounds-setup-6
bounds-setup-6 c = let a = c.args in omega (arith, setup_long a.setup.now a.log.now a.out.now (c.in_ok-drain_refusal.ensures))

pub drain-records-requires : goal.drain-records-requires
drain-records-requires c = let a = c.args in
    let room = drain_room a.setup.now a.log.now a.out.now (c.in_ok-drain_refusal.ensures) in
    (room.1, room.2)

pub returns : goal.returns
returns c = let a = c.args in
    drain_done a.setup.now a.log.now a.out.now (c.in_ok-drain_refusal.ensures) _ _ _ _ _ c.forced-forced.ensures
    c.tallies-tallies.ensures c.drain-records.ensures.many c.drain-records.ensures.copied c.drain-records.ensures.emptied
