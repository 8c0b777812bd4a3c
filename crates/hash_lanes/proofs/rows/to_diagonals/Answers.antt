use mathlib.Core.Path.{refl}
use Rattle.hash_lanes.specs.Rows.{diagonals_of}
use Rattle.hash_lanes.proofs.rows.to_diagonals.Goals as goal

pub returns : goal.returns
unfolding diagonals_of
returns c = refl
