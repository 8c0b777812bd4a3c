use Rattle.rand_chacha8.proofs.Laws.{block_made}
use Rattle.math_word.specs.Words.{list_of}
use Rattle.rand_chacha8.proofs.block.Goals as goal

pub returns : goal.returns
returns c = block_made _ _ (list_of c.start-x.result) (list_of c.rounds.result) c.start-x.ensures c.rounds.ensures c.sum_words.ensures
