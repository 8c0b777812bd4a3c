use Rattle.std.proofs.Common.{arith, rules, ◌∙◌}
use Rattle.link_prices.proofs.Laws.{link_read}
use Rattle.link_prices.proofs.link_between.Goals as goal

pub returns : goal.returns
returns c = link_read c.args.prices.now c.args.regions c.args.a c.args.b (omega arith) c.at_least_one-n.ensures.0 c.place-at.ensures c.saturating_add.ensures
    (c.from_nanos-base.ensures ∙ search rules) (search rules)
