use Rattle.call_open_writes.proofs.Cells.{pairs_priced}
use Rattle.call_open_writes.proofs.prices.price_pairs.Goals as goal

pub returns : goal.returns
returns c = let a = c.args in pairs_priced a.seed a.regions a.n a.prices.now _ _ c.clear.ensures c.price_links.ensures
