use mathlib.Core.Path.{◌∙◌}
use lib.Ieee.{of_bits}
use Rattle.link_latency.proofs.Tests.{none, some, few}
use Rattle.link_latency.proofs.fraction_admitted.Goals as goal

pub returns-then-fraction : goal.returns-then-fraction
unfolding of_bits
returns-then-fraction c = c.if-fraction.true ∙ none c.args.fraction c.if-fraction.true

pub returns-then-fraction-2 : goal.returns-then-fraction-2
unfolding of_bits
returns-then-fraction-2 c = some c.args.fraction c.if-fraction.false c.if-fraction-2.true

pub returns-else-fraction-2 : goal.returns-else-fraction-2
unfolding of_bits
returns-else-fraction-2 c = c.if-fraction-2.false ∙ few c.args.fraction c.if-fraction.false c.if-fraction-2.false
