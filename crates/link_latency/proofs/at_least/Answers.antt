use lib.Ieee.{of_bits}
use Rattle.link_latency.proofs.Laws.{at_least_floor, at_least_own}
use Rattle.link_latency.proofs.at_least.Goals as goal

pub returns-then-x : goal.returns-then-x
unfolding of_bits
returns-then-x c = at_least_floor c.args.x c.if-x.true

pub returns-else-x : goal.returns-else-x
unfolding of_bits
returns-else-x c = at_least_own c.args.x c.if-x.false
