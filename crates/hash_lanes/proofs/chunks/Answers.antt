use native.Mathlib.Omega.{arith}
use Rattle.hash_lanes.proofs.Blocks.{under_start, under_next, under_done}
use Rattle.hash_lanes.proofs.Laws.{times}
use Rattle.hash_lanes.specs.Lanes.{lane8}
use lib.ListN.{length, length-drop}
use mathlib.Core.Path.{ap, ◌∙◌}
use Prim.Native.Nat.{◌*◌}
use Rattle.hash_lanes.proofs.chunks.Goals as goal

pub loop-i-init : goal.loop-i-init
loop-i-init c = record { start_or_0 = omega arith; under = λ l g. under_start _ _ _ (c.iv_lanes-h.ensures l g) }

pub step-next-requires : goal.step-next-requires
step-next-requires c = let n = ap length c.back.ensures ∙ length-drop (64 * c.loop-i.i) c.args.s.now in (omega arith, omega arith, omega arith)

pub loop-i-preserved : goal.loop-i-preserved
loop-i-preserved c = let a = c.args in
    let i = c.loop-i in record {
      start_or_0 = omega arith;
      under = λ l g. let b = times a.n l g in
          under_next a.s.now (a.n * l) _ i.i i.d (lane8 i.h l) (lane8 c.step-next.result l) c.back.result.now (omega arith) (omega arith) c.back.ensures
          (i.invariant.under l g) (c.step-next.ensures l g);
    }

pub step-requires : goal.step-requires
step-requires c = let n = ap length c.back-2.ensures ∙ length-drop 960 c.args.s.now in (omega arith, omega arith, omega arith)

pub returns : goal.returns
returns c = let a = c.args in
    let i = c.loop-i in
    λ l g. let b = times a.n l g in
    under_done a.s.now (a.n * l) _ i.i i.d (lane8 i.h l) (lane8 c.step.result l) c.back-2.result.now (omega arith) (omega arith) c.back-2.ensures (i.invariant.under l g) (c.step.ensures l g)
