use Rattle.rand_chacha8.specs.Chacha.{initial}
use Rattle.math_word.specs.Words.{list_of}
use Rattle.rand_chacha8.proofs.start.Goals as goal

pub returns : goal.returns
unfolding initial list_of
returns c = cc
