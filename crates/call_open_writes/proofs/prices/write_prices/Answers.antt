use mathlib.Core.Path.{refl}
use native.Mathlib.Omega.{arith}
use Rattle.call_open_writes.proofs.Cells.{unpriced, price_width, priced}
use Rattle.call_open_writes.proofs.prices.write_prices.Goals as goal

pub returns-then-plan-eq0 : goal.returns-then-plan-eq0
returns-then-plan-eq0 c = unpriced c.args.plan c.args.tills c.args.prices.now c.if-plan-eq0.true c.requires.2

pub overflow_sub-pairs : goal.overflow_sub-pairs
overflow_sub-pairs c = omega (arith, c.requires.2, price_width c.args.plan c.args.tills c.if-plan-eq0.false)

pub price_pairs-requires : goal.price_pairs-requires
price_pairs-requires c = (omega arith, c.requires.1)

pub write_regions-requires : goal.write_regions-requires
write_regions-requires c = (c.requires.0, omega (arith, c.requires.2, price_width c.args.plan c.args.tills c.if-plan-eq0.false))

pub returns : goal.returns
returns c = let a = c.args in priced a.plan a.tills a.prices.now _ _ _ c.if-plan-eq0.false refl c.requires.2
    c.price_pairs.ensures c.write_regions.ensures
