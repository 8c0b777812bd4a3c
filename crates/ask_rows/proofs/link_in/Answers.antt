use Rattle.link_geography.specs.Geography.{link_in}
use mathlib.Core.Path.{refl}
use Rattle.ask_rows.proofs.link_in.Goals as goal

pub returns : goal.returns
unfolding link_in
returns c = refl
