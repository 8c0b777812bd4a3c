use Rattle.std.proofs.Common.{arith}
use Rattle.link_prices.proofs.Laws.{linked}
use Rattle.link_prices.proofs.put_link.Goals as goal

pub returns : goal.returns
returns c = linked _ _ c.args.l (omega arith) c.place-at.ensures c.saturating_add.ensures c.put.ensures c.put-2.ensures
