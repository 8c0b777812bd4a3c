use Rattle.math_word.specs.Word.{xor32}
use Rattle.hash_lanes.specs.Rows.{rotated_of}
use Rattle.hash_lanes.proofs.rows.rotated.Goals as goal

pub returns : goal.returns
unfolding rotated_of xor32
returns c = cc
