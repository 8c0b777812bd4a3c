use Rattle.hash_lanes.proofs.Laws.{below_four}
use Rattle.hash_lanes.specs.Lanes.{lane8}
use Rattle.hash_compress.specs.Compress.{iv}
use mathlib.Core.Path.{refl}
use Rattle.hash_lanes.proofs.iv_lanes.Goals as goal

pub returns : goal.returns
unfolding iv lane8
returns c = below_four _ refl refl refl refl
