use Prim.Native.Nat.{◌+◌}
use mathlib.Core.Path.{ap, ◌∙◌}
use Rattle.hash_compress.specs.Compress.{iv, compressed}
use Rattle.hash_chunk.specs.Chunk.{parent}
use Rattle.hash_chunk.proofs.parent_value.Goals as goal

pub returns : goal.returns
unfolding parent iv
returns c = c.compress.ensures ∙ ap (λ m. compressed iv m 0 64 (4 + c.args.e)) c.parent_words.ensures
