use Rattle.math_word.specs.Words.{list_of}
use Rattle.hash_compress.specs.Compress.{permuted}
use mathlib.Core.Path.{refl}
use Rattle.hash_compress.proofs.permute.Goals as goal

pub returns : goal.returns
unfolding permuted list_of
returns c = refl
