use mathlib.Core.Path.{refl}
use Rattle.hash_lanes.specs.Rows.{columns_of}
use Rattle.hash_lanes.proofs.rows.to_columns.Goals as goal

pub returns : goal.returns
unfolding columns_of
returns c = refl
