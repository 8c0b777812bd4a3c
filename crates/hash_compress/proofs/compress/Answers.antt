use mathlib.Core.Path.{ap, ◌∙◌}
use Rattle.math_word.specs.Words.{list_of}
use Rattle.hash_compress.specs.Compress.{compressed, folded, rounds}
use Rattle.hash_compress.proofs.compress.Goals as goal

pub returns : goal.returns
unfolding compressed
returns c = c.fold.ensures ∙ ap folded (c.seven_rounds.ensures ∙ ap (λ l. rounds 7 l (list_of c.args.m)) c.start.ensures)
