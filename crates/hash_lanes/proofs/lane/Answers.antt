use Rattle.hash_lanes.specs.Lanes.{lane8}
use mathlib.Core.Path.{refl}
use Rattle.hash_lanes.proofs.lane.Goals as goal

pub returns : goal.returns
unfolding lane8
returns c = refl
