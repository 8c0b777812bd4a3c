use Rattle.hash_chunk.proofs.Copying.{words_head, words_joined}
use mathlib.Core.Path.{◌∙◌}
use Rattle.hash_chunk.proofs.block_words.Goals as goal

pub returns-then-head-ge64 : goal.returns-then-head-ge64
returns-then-head-ge64 c = c.words_whole.ensures ∙ words_head c.args.head.now c.args.tail.now c.if-head-ge64.true

pub returns : goal.returns
returns c = c.words_whole-2.ensures ∙ words_joined c.args.head.now c.args.tail.now _ _ c.joined-block.ensures
