use lib.Ieee.{of_bits}
use Rattle.link_latency.proofs.Laws.{jitter_drawn, jitter_none}
use Rattle.link_latency.proofs.jitter.Goals as goal

pub returns-then-j : goal.returns-then-j
unfolding of_bits
returns-then-j c = jitter_drawn c.args.c.now c.draw_real.new.c c.args.s c.args.fraction c.if-j.true c.draw_real.ensures.0 c.draw_real.ensures.1

pub returns : goal.returns
unfolding of_bits
returns c = jitter_none c.args.c.now c.args.c.now c.args.s c.args.fraction c.if-j.false
