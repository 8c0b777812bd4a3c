use native.Mathlib.Omega.{arith}
use Rattle.hash_lanes.proofs.Places.{filled_turn, filled_blocks}
use mathlib.Core.Path.{refl}
use Rattle.hash_lanes.proofs.nodes.node_blocks.Goals as goal

pub loop-i-init : goal.loop-i-init
loop-i-init c = (omega arith, refl, λ j k. absurd (omega arith))

pub loop-i-preserved : goal.loop-i-preserved
loop-i-preserved c = let i = c.loop-i in
    let a = c.args in
    (omega arith, c.put-in-loop-i.ensures.0, filled_turn a.a a.b i.out _ _ i.i (omega arith) i.invariant.2 c.put.ensures.1 c.put.ensures.2 c.put-in-loop-i.ensures.1 c.put-in-loop-i.ensures.2)

pub returns : goal.returns
returns c = let i = c.loop-i in
    filled_blocks c.args.a c.args.b i.out (λ j k. i.invariant.2 j (omega arith))
