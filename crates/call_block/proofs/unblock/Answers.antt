use mathlib.Core.Path.{refl, sym, ap, ◌∙◌}
use Prim.Native.Nat.{ℕ}
use lib.ListN.{set}
use Rattle.spec_network.specs.Tables.{blocks_at}
use native.Mathlib.Omega.{arith}
use Rattle.ask_refusal.proofs.Laws.{number_not_0, left_by}
use Rattle.ask_block.proofs.Laws.{passed}
use Rattle.call_block.proofs.Laws.{unblock_refused, unblock_done}
use Rattle.call_block.proofs.unblock.Goals as goal

pub returns-in_err-pair : goal.returns-in_err-pair
returns-in_err-pair c = let a = c.args in
    rw (left_by c.from_residual.result c.from_residual.ensures.1) (unblock_refused a.setup.now a.net.now a.blocks.now a.from a.to _ c.in_err-pair.ensures (number_not_0 _))

pub bounds-net-5 : goal.bounds-net-5
bounds-net-5 c = omega (arith, (passed _ _ _ _ _ _ (sym c.in_ok-pair.ensures)).0.net)

pub unblock-left-requires : goal.unblock-left-requires
unblock-left-requires c = let p = (passed _ _ _ _ _ _ (sym c.in_ok-pair.ensures)).0 in omega (arith, p.blocks, p.count)

pub bounds-net-5-2 : goal.bounds-net-5-2
bounds-net-5-2 c = omega (arith, (passed _ _ _ _ _ _ (sym c.in_ok-pair.ensures)).0.net)

pub returns : goal.returns
returns c = let a = c.args in
    unblock_done a.setup.now a.net.now a.blocks.now a.from a.to _ _ refl _ _ c.in_ok-pair.ensures refl
    (ap (λ (k : ℕ). set a.net.now blocks_at k) c.unblock-left.ensures.0) c.unblock-left.ensures.1
