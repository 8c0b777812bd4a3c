use lib.Ieee.{of_bits}
use Rattle.std.proofs.Common.{◌∙◌}
use Rattle.rand_draw.proofs.Real.{drawn, undrawn}
use Rattle.rand_draw.proofs.hits.Goals as goal

pub returns-then-rate : goal.returns-then-rate
unfolding of_bits
returns-then-rate c = drawn c.args.c.now c.draw_fraction.new.c c.args.rate c.if-rate.true c.draw_fraction.ensures.0 c.draw_fraction.ensures.1

pub returns-else-rate : goal.returns-else-rate
unfolding of_bits
returns-else-rate c = let u = undrawn c.args.c.now c.args.c.now c.args.rate c.if-rate.false in (c.if-rate.false ∙ u.0, u.1)
