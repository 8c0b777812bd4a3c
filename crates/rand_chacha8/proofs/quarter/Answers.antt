use Rattle.rand_chacha8.proofs.Laws.{quarter_made}
use Rattle.rand_chacha8.proofs.quarter.Goals as goal

pub returns : goal.returns
returns c = quarter_made _ _ _ _ c.rotl-d.ensures c.rotl-b.ensures c.rotl-d-2.ensures c.rotl-b-2.ensures
