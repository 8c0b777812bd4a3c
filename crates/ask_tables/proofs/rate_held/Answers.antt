use Rattle.link_latency.specs.Admitted.{rate_admitted}
use mathlib.Core.Path.{ap, ◌∙◌}
use Rattle.ask_tables.proofs.rate_held.Goals as goal

pub returns : goal.returns
returns c = c.rate_admitted.ensures ∙ ap rate_admitted c.of_any.ensures
