use Rattle.link_latency.specs.Admitted.{fraction_admitted}
use mathlib.Core.Path.{ap, ◌∙◌}
use Rattle.ask_tables.proofs.fraction_held.Goals as goal

pub returns : goal.returns
returns c = c.fraction_admitted.ensures ∙ ap fraction_admitted c.of_any.ensures
