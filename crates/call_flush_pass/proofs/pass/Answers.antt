use native.Mathlib.Omega.{arith}
use Rattle.call_flush_pass.specs.Pass.{flush_view}
use Rattle.call_flush_pass.proofs.Passing.{begin, more, end, near_copy_lem, row_room}
use Rattle.call_flush_pass.proofs.pass.Goals as goal

pub loop-i-init : goal.loop-i-init
loop-i-init c = let a = c.args in
    let F = a.fixed in
    begin F.extents (flush_view F.extents F.tills.now F.blocks.now) a.waiting.now a.k a.seen.now a.log.now a.out.now c.requires.0.seen

pub overflow_mul-i : goal.overflow_mul-i
overflow_mul-i c = omega (arith, c.requires.1.few)

pub get-c-requires : goal.get-c-requires
get-c-requires c = omega (arith, c.requires.1.rows)

pub turn-m-requires : goal.turn-m-requires
turn-m-requires c = let a = c.args in
    let l = c.loop-i in
    let F = a.fixed in
    let R = c.requires.0 in
    let D = c.requires.1 in
    let s = flush_view F.extents F.tills.now F.blocks.now in (
      record { read = R.read; seen = l.invariant.room; log = record { few = R.log.few; size = omega (arith, R.log.size, l.invariant.log) } },
      near_copy_lem F.extents s a.waiting.now a.k a.seen.now a.log.now a.out.now l.i _ _ _ l.m c.loop-i-test.true D l.invariant c.get-c.result c.get-c.ensures,
      record {
        room = row_room F.extents s a.waiting.now a.k a.seen.now a.log.now a.out.now l.i _ _ _ l.m c.loop-i-test.true D l.invariant;
        rows = omega (arith, l.invariant.counts.0, D.few);
        delivered = omega (arith, l.invariant.counts.1, D.few);
        dropped = omega (arith, l.invariant.counts.2, D.few);
      },
    )

pub loop-i-preserved : goal.loop-i-preserved
loop-i-preserved c = let a = c.args in
    let l = c.loop-i in
    let F = a.fixed in
    more F.extents (flush_view F.extents F.tills.now F.blocks.now) a.waiting.now a.k a.seen.now a.log.now a.out.now l.i _ _ _
    l.m c.loop-i-test.true c.requires.1 l.invariant c.get-c.result c.get-c.ensures _ _ _ _ c.turn-m.auto.seen
    c.turn-m.auto.log c.turn-m.auto.out c.turn-m.ensures

pub shape_of-seen : goal.shape_of-seen
shape_of-seen c = c.loop-i.invariant.seen

pub shape_of-log : goal.shape_of-log
shape_of-log c = c.loop-i.invariant.log

pub shape_of-out : goal.shape_of-out
shape_of-out c = c.loop-i.invariant.out

pub returns : goal.returns
returns c = let a = c.args in
    let F = a.fixed in
    end F.extents (flush_view F.extents F.tills.now F.blocks.now) a.waiting.now a.k a.seen.now a.log.now a.out.now c.loop-i.i _ _ _ c.loop-i.m c.loop-i-test.false c.loop-i.invariant
