use Rattle.rand_streams.proofs.Bytes.{link_made}
use Rattle.rand_streams.proofs.link.link_bytes.Goals as goal

pub returns-clause-value : goal.returns-clause-value
returns-clause-value c = link_made _ _ _ c.to_le_bytes-3.ensures c.to_le_bytes.ensures c.to_le_bytes-2.ensures c.joined-ends.ensures c.joined-named.ensures c.joined.ensures
