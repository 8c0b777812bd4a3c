use Rattle.ask_opening.proofs.Sums.{no_prices, some_prices, one_region, more_regions}
use Rattle.ask_opening.proofs.lengths.prices_fit.Goals as goal

pub returns-then-plan-eq0 : goal.returns-then-plan-eq0
returns-then-plan-eq0 c = no_prices c.args.n c.args.plan c.args.tills c.if-plan-eq0.true

pub returns-then-plan-eq0-2 : goal.returns-then-plan-eq0-2
returns-then-plan-eq0-2 c = some_prices c.args.n c.args.plan c.args.tills _ 1 c.if-plan-eq0.false (one_region _ c.if-plan-eq0-2.true) c.is_sum.ensures

pub returns : goal.returns
returns c = some_prices c.args.n c.args.plan c.args.tills _ _ c.if-plan-eq0.false (more_regions _ c.if-plan-eq0-2.false) c.is_sum-2.ensures
