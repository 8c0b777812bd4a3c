use mathlib.Core.Path.{◌∙◌}
use lib.Ieee.{of_bits}
use Rattle.link_latency.proofs.Tests.{from_none, below_none}
use Rattle.link_latency.proofs.rate_admitted.Goals as goal

pub returns-then-rate : goal.returns-then-rate
unfolding of_bits
returns-then-rate c = from_none c.args.rate c.if-rate.true

pub returns-else-rate : goal.returns-else-rate
unfolding of_bits
returns-else-rate c = c.if-rate.false ∙ below_none c.args.rate c.if-rate.false
