use mathlib.Core.Path.{refl, sym, ◌∙◌}
use native.Mathlib.Omega.{arith}
use Rattle.ask_refusal.proofs.Laws.{number_not_0, left_by}
use Rattle.ask_block.proofs.Laws.{passed}
use Rattle.call_block.proofs.Laws.{ask_refused, ask_done}
use Rattle.call_block.proofs.is_blocked.Goals as goal

pub returns-in_err-time : goal.returns-in_err-time
returns-in_err-time c = let a = c.args in
    rw (left_by c.from_residual.result c.from_residual.ensures.1) (ask_refused a.setup.now a.net.now a.blocks.now a.from a.to a.at _ c.in_err-time.ensures _ refl (number_not_0 _))

pub bounds-net-5 : goal.bounds-net-5
bounds-net-5 c = omega (arith, (passed _ _ _ _ _ _ (sym c.in_ok-time.ensures)).0.net)

pub is_blocked-requires : goal.is_blocked-requires
is_blocked-requires c = let p = (passed _ _ _ _ _ _ (sym c.in_ok-time.ensures)).0 in omega (arith, p.blocks, p.count)

pub returns : goal.returns
returns c = let a = c.args in
    ask_done a.setup.now a.net.now a.blocks.now a.from a.to a.at _ c.in_ok-time.ensures refl _ refl _ _
    c.is_blocked.ensures refl _ refl
