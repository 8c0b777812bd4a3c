use mathlib.Core.Path.{refl, sym, ◌∙◌}
use native.Mathlib.Omega.{arith}
use Rattle.ask_refusal.proofs.Laws.{number_not_0, left_by}
use Rattle.ask_block.proofs.Laws.{passed}
use Rattle.call_block.proofs.Laws.{stands, block_refused, block_done}
use Rattle.call_block.proofs.block.Goals as goal

pub returns-in_err-place : goal.returns-in_err-place
returns-in_err-place c = let a = c.args in
    rw (left_by c.from_residual.result c.from_residual.ensures.1) (block_refused a.setup.now a.net.now a.blocks.now a.from a.to _ c.in_err-place.ensures (number_not_0 _))

pub bounds-net-5 : goal.bounds-net-5
bounds-net-5 c = omega (arith, (passed _ _ _ _ _ _ (sym c.in_ok-place.ensures)).0.net)

pub block-requires : goal.block-requires
block-requires c = omega (arith, (passed _ _ _ _ _ _ (sym c.in_ok-place.ensures)).0.blocks)

pub unwrap-requires : goal.unwrap-requires
unwrap-requires c = stands _ c.args.net.now c.block.ensures.0 (passed _ _ _ _ _ _ (sym c.in_ok-place.ensures)).1

pub overflow_add-net : goal.overflow_add-net
overflow_add-net c = omega (arith, (passed _ _ _ _ _ _ (sym c.in_ok-place.ensures)).0.count)

pub bounds-net-5-2 : goal.bounds-net-5-2
bounds-net-5-2 c = omega (arith, (passed _ _ _ _ _ _ (sym c.in_ok-place.ensures)).0.net)

pub returns : goal.returns
returns c = let a = c.args in
    block_done a.setup.now a.net.now a.blocks.now a.from a.to _ _ refl _ _ c.in_ok-place.ensures refl refl
    c.block.ensures.1
