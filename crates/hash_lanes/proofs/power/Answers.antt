use Rattle.hash_lanes.proofs.Laws.{shl_one}
use Rattle.hash_lanes.proofs.power.Goals as goal

pub returns : goal.returns
returns c = shl_one c.args.k c.requires
