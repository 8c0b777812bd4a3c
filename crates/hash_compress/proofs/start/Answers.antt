use mathlib.Core.Path.{refl}
use Rattle.math_word.specs.Words.{list_of}
use Rattle.hash_compress.specs.Compress.{initial, iv}
use Rattle.hash_compress.proofs.start.Goals as goal

pub returns : goal.returns
unfolding initial iv list_of
returns c = refl
