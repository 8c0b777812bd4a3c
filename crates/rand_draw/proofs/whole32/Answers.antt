use mathlib.Core.Path.{refl}
use Rattle.rand_draw.proofs.Laws.{settled, kept, carried, answer32, word_on, moved_on, below_le}
use Rattle.rand_draw.proofs.whole32.Goals as goal

pub returns-then-low-n : goal.returns-then-low-n
returns-then-low-n c = let first = c.draw32-first in
    answer32 c.args.c.now first.new.self c.args.n first.result _ 1 first.ensures.0 refl
    (settled 32 c.args.n first.result _ c.requires.0 first.type_inv refl c.low_half-low.ensures.0 c.if-low-n.true)
    first.ensures.1

pub returns-then-low-more-lt4294967296 : goal.returns-then-low-more-lt4294967296
returns-then-low-more-lt4294967296 c = let first = c.draw32-first in let second = c.draw32-second in
    answer32 c.args.c.now second.new.self c.args.n first.result second.result 2 first.ensures.0
    (word_on c.args.c.now first.new.self first.ensures.1 second.ensures.0)
    (kept 32 c.args.n first.result second.result c.requires.0 first.type_inv refl c.low_half-low.ensures.0 refl c.if-low-n.false c.if-low-more-lt4294967296.true)
    (moved_on _ _ _ 1 1 first.ensures.1 second.ensures.1)

pub returns : goal.returns
returns c = let first = c.draw32-first in let second = c.draw32-second in
    answer32 c.args.c.now second.new.self c.args.n first.result second.result 2 first.ensures.0
    (word_on c.args.c.now first.new.self first.ensures.1 second.ensures.0)
    (carried 32 c.args.n first.result second.result (below_le _ _ c.ranges.n.fits) first.type_inv refl c.low_half-low.ensures.0 refl c.if-low-n.false c.if-low-more-lt4294967296.false)
    (moved_on _ _ _ 1 1 first.ensures.1 second.ensures.1)
