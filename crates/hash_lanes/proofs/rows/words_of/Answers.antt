use mathlib.Core.Path.{refl}
use Rattle.math_word.specs.Words.{list_of}
use Rattle.hash_lanes.specs.Rows.{flat}
use Rattle.hash_lanes.proofs.rows.words_of.Goals as goal

pub returns : goal.returns
unfolding flat list_of
returns c = refl
