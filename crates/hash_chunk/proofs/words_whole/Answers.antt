use Rattle.math_word.proofs.Lists.{list16}
use Rattle.math_word.specs.Words.{list_of}
use Rattle.hash_chunk.specs.Chunk.{words_of}
use Rattle.hash_chunk.proofs.words_whole.Goals as goal

pub returns : goal.returns
unfolding words_of list_of
returns c = list16 c.le_word.ensures c.le_word-2.ensures c.le_word-3.ensures c.le_word-4.ensures c.le_word-5.ensures c.le_word-6.ensures c.le_word-7.ensures
    c.le_word-8.ensures c.le_word-9.ensures c.le_word-10.ensures c.le_word-11.ensures c.le_word-12.ensures c.le_word-13.ensures c.le_word-14.ensures c.le_word-15.ensures c.le_word-16.ensures
