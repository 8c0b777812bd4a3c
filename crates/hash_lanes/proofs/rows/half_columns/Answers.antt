use Rattle.hash_lanes.specs.Rows.{half_rows}
use Rattle.hash_lanes.proofs.rows.half_columns.Goals as goal

pub returns : goal.returns
unfolding half_rows
returns c = cc
