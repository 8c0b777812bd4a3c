use lib.Dec.{eqb}
use mathlib.Core.Bool.{not}
use Rattle.spec_network.specs.Tables.{settings_at}
use Rattle.link_draws.proofs.Laws.{cost_told}
use Rattle.link_geography.specs.Geography.{cost_of}
use mathlib.Core.Path.{◌∙◌}
use Rattle.link_draws.proofs.cost.Goals as goal

pub returns : goal.returns
returns c = let a = c.args in
    cost_told (not (eqb (settings_at a.setup.now).plan.planned 0)) (settings_at a.setup.now).plan.regions a.prices.now _ _ _ a.bytes _ c.then_some-plan.ensures c.cost_between.ensures
    ∙ (λ j. cost_of (not (eqb (settings_at a.setup.now).plan.planned 0)) a.prices.now
    (settings_at a.setup.now).plan.regions (c.region-a.ensures j) (c.region-b.ensures j) (c.from_nanos-latency.ensures j)
    a.bytes)
