use Rattle.link_draws.proofs.Laws.{struck}
use Rattle.link_draws.proofs.chance.Goals as goal

pub returns : goal.returns
returns c = struck _ c.args.c.now c.hits.result c.hits.new.c c.rate.result c.rate.ensures c.hits.ensures.0 c.hits.ensures.1
