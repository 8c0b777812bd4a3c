use native.Mathlib.Omega.{arith}
use mathlib.Core.Path.{refl, ◌∙◌}
use Rattle.hash_compress.specs.Compress.{iv}
use Rattle.hash_chunk.specs.Chunk.{chunk}
use Rattle.hash_chunk.proofs.Laws.{blocks_two, blocks_end, shorter}
use Rattle.hash_chunk.proofs.chunk_value.Goals as goal

pub loop-front-init : goal.loop-front-init
unfolding chunk iv
loop-front-init c = (refl, omega arith)

pub loop-front-smaller : goal.loop-front-smaller
loop-front-smaller c = omega (arith, shorter c.loop-front.front.now c.loop-front.rest.now c.saturating_sub.result c.saturating_sub.ensures c.back-more.ensures c.back-left.ensures)

pub loop-front-preserved : goal.loop-front-preserved
loop-front-preserved c = let l = c.loop-front in
    let a = c.args in (
      blocks_two l.h l.front.now l.rest.now a.t l.d a.e c.saturating_sub.result c.loop-front-test.true c.saturating_sub.ensures c.back-more.ensures
          c.back-left.ensures c.block_words.ensures c.compress-next.ensures ∙ l.invariant.0,
      omega (arith, shorter l.front.now l.rest.now c.saturating_sub.result c.saturating_sub.ensures c.back-more.ensures c.back-left.ensures),
    )

pub returns : goal.returns
returns c = let l = c.loop-front in
    let a = c.args in
    blocks_end l.h l.front.now l.rest.now a.t l.d a.e c.loop-front-test.false c.block_words-2.ensures c.compress.ensures ∙ l.invariant.0
