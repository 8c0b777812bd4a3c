use mathlib.Core.Path.{refl}
use Rattle.rand_draw.proofs.Laws.{test_settled, test_again, test_kept, test_carried, below_le, settled, kept, carried, answer64, pair_on, moved_on}
use Rattle.rand_draw.proofs.whole64.Goals as goal

pub returns-then-low-n : goal.returns-then-low-n
returns-then-low-n c = let first = c.draw64-first in
    answer64 c.args.c.now first.new.self c.args.n first.result _ 1 first.ensures.0 refl
    (settled 64 c.args.n first.result _ c.requires.0 first.type_inv c.product-high.ensures.0 c.product-high.ensures.1 (test_settled _ _ c.requires.0 c.ranges.n.fits c.if-low-n.true))
    first.ensures.1

pub returns-then-more-low : goal.returns-then-more-low
returns-then-more-low c = let first = c.draw64-first in let second = c.draw64-second in
    answer64 c.args.c.now second.new.self c.args.n first.result second.result 2 first.ensures.0
    (pair_on c.args.c.now first.new.self first.ensures.1 second.ensures.0)
    (kept 64 c.args.n first.result second.result c.requires.0 first.type_inv c.product-high.ensures.0 c.product-high.ensures.1 c.product-q.ensures.0
    (test_again _ _ c.requires.0 c.ranges.n.fits c.if-low-n.false) (test_kept _ _ c.product-high.type_inv.1.1.1.0.1 c.if-more-low.true))
    (moved_on _ _ _ 2 2 first.ensures.1 second.ensures.1)

pub returns : goal.returns
returns c = let first = c.draw64-first in let second = c.draw64-second in
    answer64 c.args.c.now second.new.self c.args.n first.result second.result 2 first.ensures.0
    (pair_on c.args.c.now first.new.self first.ensures.1 second.ensures.0)
    (carried 64 c.args.n first.result second.result (below_le _ _ c.ranges.n.fits) first.type_inv c.product-high.ensures.0 c.product-high.ensures.1 c.product-q.ensures.0
    (test_again _ _ c.requires.0 c.ranges.n.fits c.if-low-n.false) (test_carried _ _ c.if-more-low.false))
    (moved_on _ _ _ 2 2 first.ensures.1 second.ensures.1)
