use Rattle.link_geography.proofs.Laws.{links_made}
use Rattle.math_word.specs.Word.{le4}
use Rattle.link_geography.proofs.links_digest.Goals as goal

pub returns : goal.returns
unfolding le4
returns c = links_made c.args.seed c.to_le_bytes.ensures c.hash_parts.ensures
