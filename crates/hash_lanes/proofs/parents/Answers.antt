use Rattle.hash_lanes.proofs.Levels.{parent_made}
use Rattle.hash_lanes.specs.Lanes.{lane8}
use Rattle.hash_lanes.proofs.parents.Goals as goal

pub returns : goal.returns
returns c = let a = c.args in
    λ l g. parent_made l _ _ (lane8 a.a l) (lane8 a.b l) (c.step.ensures l g) (c.iv_lanes.ensures l g) (c.node_blocks-m.ensures l g)
