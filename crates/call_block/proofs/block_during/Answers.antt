use mathlib.Core.Path.{refl, sym, ◌∙◌}
use native.Mathlib.Omega.{arith}
use Rattle.ask_refusal.proofs.Laws.{number_not_0, left_by}
use Rattle.ask_block.proofs.Laws.{passed}
use Rattle.call_block.proofs.Laws.{stands, during_free, during_refused, during_done}
use Rattle.call_block.proofs.block_during.Goals as goal

pub returns-in_err-window : goal.returns-in_err-window
returns-in_err-window c = let a = c.args in
    rw (left_by c.from_residual.result c.from_residual.ensures.1) (during_refused a.setup.now a.net.now a.blocks.now a.from a.to _ a.start a.end c.in_err-window.ensures (number_not_0 _))

pub bounds-net-5 : goal.bounds-net-5
bounds-net-5 c = omega (arith, (passed _ _ _ _ _ _ (sym c.in_ok-window.ensures)).0.net)

pub block_during-requires : goal.block_during-requires
block_during-requires c = omega (arith, (passed _ _ _ _ _ _ (sym c.in_ok-window.ensures)).0.blocks)

pub unwrap-requires : goal.unwrap-requires
unwrap-requires c = stands _ c.args.net.now c.block_during.ensures.0 (during_free _ c.args.start c.args.end (passed _ _ _ _ _ _ (sym c.in_ok-window.ensures)).1)

pub overflow_add-net : goal.overflow_add-net
overflow_add-net c = omega (arith, (passed _ _ _ _ _ _ (sym c.in_ok-window.ensures)).0.count)

pub bounds-net-5-2 : goal.bounds-net-5-2
bounds-net-5-2 c = omega (arith, (passed _ _ _ _ _ _ (sym c.in_ok-window.ensures)).0.net)

pub returns : goal.returns
returns c = let a = c.args in
    during_done a.setup.now a.net.now a.blocks.now a.from a.to _ _ refl _ _ a.start a.end c.in_ok-window.ensures refl refl c.block_during.ensures.1
