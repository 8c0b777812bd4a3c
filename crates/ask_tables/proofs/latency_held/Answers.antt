use Rattle.link_latency.specs.Admitted.{latency_admitted}
use mathlib.Core.Path.{ap, ◌∙◌}
use Rattle.ask_tables.proofs.latency_held.Goals as goal

pub returns : goal.returns
returns c = c.latency_admitted.ensures ∙ ap latency_admitted c.from_nanos.ensures
