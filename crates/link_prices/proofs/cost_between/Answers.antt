use Rattle.link_geography.specs.Geography.{cost_of}
use Rattle.link_prices.proofs.Laws.{cost_planned}
use Rattle.std.proofs.Common.{refl}
use Rattle.link_prices.proofs.cost_between.Goals as goal

pub returns-in_default : goal.returns-in_default
unfolding cost_of
returns-in_default c = rw c.in_default.is refl

pub returns : goal.returns
returns c = let a = c.args in rw c.in-Some.is (cost_planned a.prices.now _ a.a a.b a.latency.ns a.bytes c.link_between-l.result c.link_between-l.ensures c.transmission-wire.ensures)
