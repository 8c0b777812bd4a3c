use Rattle.ask_tables.specs.Held.{sizes_within}
use Rattle.ask_opening.proofs.limits.sizes_admitted.Goals as goal

pub returns : goal.returns
unfolding sizes_within
returns c = c.sizes_within.ensures
