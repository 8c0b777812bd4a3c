use native.Mathlib.Omega.{arith}
use Rattle.hash_lanes.proofs.Levels.{whole_made}
use Rattle.hash_lanes.proofs.whole.Goals as goal

pub level-h-requires : goal.level-h-requires
level-h-requires c = omega (arith, c.power-m.ensures, c.requires)

pub returns : goal.returns
returns c = let a = c.args in
    whole_made a.k a.s.now a.t a.e c.power-m.result c.level-h.result c.lane.result c.lane-2.result c.lane-3.result c.lane-4.result c.parent_value-left.result c.parent_value-right.result
    c.power-m.ensures.0 c.level-h.ensures c.lane.ensures c.lane-2.ensures c.lane-3.ensures c.lane-4.ensures c.parent_value-left.ensures c.parent_value-right.ensures c.parent_value.ensures
