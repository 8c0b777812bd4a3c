use Rattle.call_offer.proofs.Readings.{first_rate, second_rate}
use Rattle.spec_network.specs.Limits.{rate_of}
use Rattle.spec_network.specs.Tables.{settings_at}
use Rattle.std.proofs.Common.{ap, ◌∙◌}
use lib.Ieee.{of_bits}
use Rattle.call_offer.proofs.echoing.Goals as goal

pub returns-then-duplicate : goal.returns-then-duplicate
unfolding of_bits
returns-then-duplicate c = c.if-duplicate.true ∙ first_rate (settings_at c.args.setup.now) c.of_any-duplicate.result (c.of_any-duplicate.ensures ∙ ap rate_of c.cell.ensures) c.if-duplicate.true

pub returns-else-duplicate : goal.returns-else-duplicate
unfolding of_bits
returns-else-duplicate c =
    second_rate (settings_at c.args.setup.now) c.of_any-duplicate.result c.of_any-replay.result (c.of_any-duplicate.ensures ∙ ap rate_of c.cell.ensures) c.if-duplicate.false
    (c.of_any-replay.ensures ∙ ap rate_of c.cell-2.ensures)
