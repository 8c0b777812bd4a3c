use Rattle.link_geography.proofs.Laws.{host_made}
use Rattle.link_geography.proofs.host_digest.Goals as goal

pub returns : goal.returns
returns c = host_made c.args.seed c.args.till c.to_le_bytes-2.ensures c.to_le_bytes.ensures c.joined-named.ensures c.hash_parts.ensures
