use Rattle.link_geography.proofs.Laws.{wire}
use Rattle.link_geography.proofs.transmission.Goals as goal

pub returns : goal.returns
returns c = let a = c.args in
    wire a.bytes a.rate c.at_least_one-n.ensures.0 c.from_nanos.ensures
