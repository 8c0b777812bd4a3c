use mathlib.Core.Path.{refl}
use Rattle.math_word.specs.Words.{list_of}
use Rattle.math_word.specs.Word.{xor32}
use Rattle.hash_compress.specs.Compress.{folded}
use Rattle.hash_compress.proofs.fold.Goals as goal

pub returns : goal.returns
unfolding folded xor32 list_of
returns c = refl
