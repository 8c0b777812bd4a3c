use Rattle.std.proofs.Common.{ap₂, ◌∙◌}
use borrow.Author.Tests.{lt-ltb, le-ltb}
use Rattle.rand_streams.specs.Streams.{step_of, word_pair}
use Rattle.rand_streams.proofs.record.draw_at.Goals as goal

pub returns-then-count-lt4611686018427387904 : goal.returns-then-count-lt4611686018427387904
unfolding step_of
returns-then-count-lt4611686018427387904 c = let e = lt-ltb _ _ c.if-count-lt4611686018427387904.true in
    (simp e (c.draw64.ensures.0 ∙ ap₂ word_pair c.at-c.ensures.0 c.at-c.ensures.1), simp e)

pub returns : goal.returns
unfolding step_of
returns c = let e = le-ltb _ _ c.if-count-lt4611686018427387904.false in (simp e, simp e)
