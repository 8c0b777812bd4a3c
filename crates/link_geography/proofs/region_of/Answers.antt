use Rattle.link_geography.proofs.Laws.{region}
use Rattle.link_geography.proofs.region_of.Goals as goal

pub returns : goal.returns
returns c = region _ _ _ c.host_digest-d.result c.host_digest-d.ensures c.at_least_one-n.ensures.0 c.at_least_one-n.ensures.1 c.from-low.ensures c.from-high.ensures
