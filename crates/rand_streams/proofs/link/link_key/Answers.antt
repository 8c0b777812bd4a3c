use Rattle.rand_streams.specs.Link.{link_key}
use Rattle.hash_digest.specs.Blake3.{hash}
use mathlib.Core.Path.{ap, ◌∙◌}
use Rattle.rand_streams.proofs.link.link_key.Goals as goal

pub returns : goal.returns
unfolding link_key
returns c = c.hash.ensures ∙ ap hash c.link_bytes-bytes.ensures.value
