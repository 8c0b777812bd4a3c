use native.Mathlib.Omega.{arith}
use Rattle.math_word.specs.Words.{list_of}
use Rattle.math_word.proofs.Lists.{joined}
use Rattle.hash_chunk.proofs.parent_words.Goals as goal

pub returns : goal.returns
unfolding list_of
returns c = joined c.args.l c.args.r (omega arith) (omega arith)
