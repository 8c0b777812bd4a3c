use Rattle.link_draws.proofs.Laws.{regions_few, square, region_in, region_out}
use native.Mathlib.Omega.{arith}
use Rattle.spec_network.specs.Tables.{settings_at}
use Rattle.link_draws.proofs.region.Goals as goal

pub overflow_mul-i : goal.overflow_mul-i
overflow_mul-i c = omega (arith, square c.at_least_one-n.result (regions_few _ _ c.at_least_one-n.ensures.0 c.requires.0.regions))

pub overflow_mul-i-2 : goal.overflow_mul-i-2
overflow_mul-i-2 c = omega (arith, square c.at_least_one-n.result (regions_few _ _ c.at_least_one-n.ensures.0 c.requires.0.regions))

pub overflow_add-i : goal.overflow_add-i
overflow_add-i c = omega (arith, square c.at_least_one-n.result (regions_few _ _ c.at_least_one-n.ensures.0 c.requires.0.regions))

pub returns-then-i-prices : goal.returns-then-i-prices
returns-then-i-prices c = let a = c.args in
    region_in (settings_at a.setup.now).plan a.prices.now a.t c.at_least_one-n.result c.at_least_one-n.ensures.0

pub returns : goal.returns
returns c = region_out (settings_at c.args.setup.now).plan c.args.prices.now c.args.t c.at_least_one-n.result c.at_least_one-n.ensures.0 (omega (arith, c.if-i-prices.false))
