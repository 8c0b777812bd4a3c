use Rattle.math_word.specs.Word.{rotr32}
use Rattle.std.proofs.Common.{rules}
use Rattle.math_word.proofs.rotr.Goals as goal

pub returns : goal.returns
unfolding rotr32
returns c = search rules
