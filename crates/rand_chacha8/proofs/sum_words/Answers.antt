use Rattle.math_word.specs.Word.{add32}
use Rattle.math_word.specs.Words.{list_of}
use Rattle.rand_chacha8.specs.Chacha.{sums}
use Rattle.rand_chacha8.proofs.sum_words.Goals as goal

pub returns : goal.returns
unfolding sums list_of add32
returns c = cc
