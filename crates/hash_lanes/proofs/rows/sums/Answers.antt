use Rattle.math_word.specs.Word.{add32}
use Rattle.hash_lanes.specs.Rows.{sums_of}
use Rattle.hash_lanes.proofs.rows.sums.Goals as goal

pub returns : goal.returns
unfolding sums_of add32
returns c = cc
