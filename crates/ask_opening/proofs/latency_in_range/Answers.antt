use mathlib.Core.Path.{◌∙◌, ap}
use Rattle.link_latency.specs.Admitted.{latency_admitted}
use Rattle.ask_opening.proofs.latency_in_range.Goals as goal

pub returns : goal.returns
returns c = c.latency_admitted.ensures ∙ ap latency_admitted c.from_nanos.ensures
