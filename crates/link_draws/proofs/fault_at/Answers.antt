use mathlib.Core.Path.{◌∙◌}
use Rattle.link_draws.proofs.fault_at.Goals as goal

pub returns : goal.returns
returns c = record { key = c.at.ensures.0 ∙ c.fault_key-key.ensures; count = c.at.ensures.1 }
