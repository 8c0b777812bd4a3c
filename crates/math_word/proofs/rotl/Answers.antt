use Rattle.std.proofs.Common.{rules}
use Rattle.math_word.specs.Word.{rotl32}
use Rattle.math_word.proofs.rotl.Goals as goal

pub returns : goal.returns
unfolding rotl32
returns c = search rules
