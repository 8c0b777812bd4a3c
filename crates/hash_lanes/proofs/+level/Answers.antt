use native.Mathlib.Omega.{arith}
use mathlib.Core.Path.{ap, ◌∙◌}
use Prim.Native.Nat.{◌+◌, ◌*◌}
use lib.ListN.{length, length-drop}
use Rattle.hash_lanes.proofs.Laws.{double}
use Rattle.hash_lanes.proofs.Levels.{level_leaf, level_made}
use Rattle.hash_lanes.proofs.+level.Goals as goal

pub returns-then-k-eq0 : goal.returns-then-k-eq0
returns-then-k-eq0 t c = λ l g. level_leaf c.args.k _ _ c.if-k-eq0.true (c.chunks.ensures l g)

pub level-a-requires : goal.level-a-requires
level-a-requires t c = omega (arith, c.requires, double c.args.k c.if-k-eq0.false, c.power-m.ensures)

pub level-b-requires : goal.level-b-requires
level-b-requires t c =
    let n = ap length c.back.ensures ∙ length-drop (1024 * c.power-m.result) c.args.s.now in
    omega (arith, n, c.requires, double c.args.k c.if-k-eq0.false, c.power-m.ensures)

pub returns : goal.returns
returns t c =
    let a = c.args in
    let m = c.power-m in
    λ l g. level_made a.k a.s.now c.back.result.now (a.n * l) (a.t + a.u * l) (a.t + m.result + a.u * l) m.result c.if-k-eq0.false
    m.ensures.0 c.back.ensures (omega arith) (c.level-a.ensures l g) (c.level-b.ensures l g) (c.parents.ensures l g)
