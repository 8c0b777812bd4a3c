use Rattle.std.proofs.Common.{◌<◌, arith}
use Rattle.fault_card.proofs.Laws.{room, grown, more, none, single}
use Rattle.fault_card.proofs.little.Goals as goal

pub loop-k-init : goal.loop-k-init
loop-k-init c = record { within = omega arith; so_far = none _ _ _; small = single _ }

pub overflow_mul-v : goal.overflow_mul-v
overflow_mul-v c = omega (arith, room _ _ c.loop-k.invariant.small (omega arith))

pub overflow_add-v : goal.overflow_add-v
overflow_add-v c = omega (arith, room _ _ c.loop-k.invariant.small (omega arith), c.byte.ensures.1)

pub loop-k-preserved : goal.loop-k-preserved
loop-k-preserved c =
    let a = c.args in
    let at = c.loop-k in
    let some : 0 < at.k = omega arith in
    record {
      within = omega arith;
      so_far = more a.s.now a.i a.w _ _ some at.invariant.within _ at.invariant.so_far c.byte.ensures.0;
      small = grown a.s.now a.i a.w _ _ some at.invariant.within _ at.invariant.small c.byte.ensures.1;
    }
