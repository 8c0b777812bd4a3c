use Rattle.link_prices.proofs.Laws.{paired}
use Rattle.link_prices.proofs.put_pair.Goals as goal

pub returns : goal.returns
returns c = let given = c.args in paired _ given.regions given.a given.b given.l c.put_link.ensures c.put_link-2.ensures
