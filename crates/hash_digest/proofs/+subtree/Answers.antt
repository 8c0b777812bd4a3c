use native.Mathlib.Omega.{arith}
use Prim.Native.Nat.{◌*◌}
use mathlib.Core.List.{◌++◌}
use mathlib.Core.Path.{◌∙◌}
use Rattle.math_parts.proofs.Parts.{right_length}
use Rattle.hash_digest.proofs.TreeLaws.{tree_leaf, tree_two_same, tree_two_made, tree_whole}
use Rattle.hash_lanes.proofs.Laws.{double}
use Rattle.hash_digest.proofs.+subtree.Goals as goal

pub returns-then-k-eq0 : goal.returns-then-k-eq0
returns-then-k-eq0 t c = let a = c.args in
    c.chunk_value.ensures ∙ tree_leaf a.k (a.head.now ++ a.tail.now) a.t a.e c.if-k-eq0.true

pub returns-then-is_whole : goal.returns-then-is_whole
returns-then-is_whole t c = let a = c.args in let f = c.is_whole.ensures c.if-is_whole.true in
    tree_whole a.k a.head.now a.tail.now a.t a.e f.0 f.2 c.whole_parts.ensures

pub subtree-requires : goal.subtree-requires
subtree-requires t c = omega (arith, c.requires, double c.args.k c.if-k-eq0.false, c.power-n.ensures)

pub returns-then-head-tail : goal.returns-then-head-tail
returns-then-head-tail t c = let a = c.args in
    c.subtree.ensures ∙ tree_two_same a.k a.head.now a.tail.now a.t a.e c.if-k-eq0.false (omega (arith, c.if-head-tail.true, c.power-n.ensures))

pub subtree-r-requires : goal.subtree-r-requires
subtree-r-requires t c = let a = c.args in
    omega (
      arith,
      c.requires,
      double a.k c.if-k-eq0.false,
      c.power-n.ensures,
      right_length (1024 * c.power-n.result) c.saturating_sub-m.result a.head.now a.tail.now c.saturating_sub-m.ensures c.back.ensures c.back-2.ensures,
    )

pub returns : goal.returns
returns t c = let a = c.args in
    tree_two_made a.k a.head.now a.tail.now a.t a.e c.power-n.result c.saturating_sub-m.result c.front.result.now c.front-2.result.now c.back.result.now c.back-2.result.now
    c.if-k-eq0.false c.power-n.ensures.0 c.if-head-tail.false c.saturating_sub-m.ensures c.front.ensures c.front-2.ensures c.back.ensures c.back-2.ensures
    c.subtree-l.ensures c.subtree-r.ensures c.parent_value.ensures
