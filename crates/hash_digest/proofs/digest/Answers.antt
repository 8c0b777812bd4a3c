use Rattle.hash_digest.specs.Blake3.{digest_of}
use mathlib.Core.List.{◌++◌}
use mathlib.Core.Path.{ap, ◌∙◌}
use Rattle.hash_digest.proofs.digest.Goals as goal

pub returns : goal.returns
returns c = c.digest_parts.ensures ∙ ap (λ l. digest_of (l ++ c.args.s.now)) c.front.ensures
