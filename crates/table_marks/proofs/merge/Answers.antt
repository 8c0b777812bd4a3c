use mathlib.Core.Path.{sym, ◌∙◌}
use Prim.Native.Nat.{◌<◌}
use native.Mathlib.Omega.{arith}
use Rattle.table_marks.proofs.Parts.{begin, is_left, old_turn, new_turn, finish}
use Rattle.table_marks.proofs.merge.Goals as goal

pub loop-j-init : goal.loop-j-init
loop-j-init c = begin _ _ _ _ c.requires.0 c.requires.1

pub below-requires : goal.below-requires
below-requires c = λ h. omega arith

pub bounds-ws-n : goal.bounds-ws-n
bounds-ws-n c = let l = c.loop-j in
    let a = c.args in
    let h : l.i < a.k = is_left l.i a.k _ c.below.ensures c.if-below.true in
    omega (arith, h)

pub loop-j-smaller-then-below : goal.loop-j-smaller-then-below
loop-j-smaller-then-below c = let l = c.loop-j in
    let a = c.args in
    let h : l.i < a.k = is_left l.i a.k _ c.below.ensures c.if-below.true in
    omega (arith, h)

pub loop-j-preserved-then-below : goal.loop-j-preserved-then-below
loop-j-preserved-then-below c = let l = c.loop-j in
    let a = c.args in
    old_turn a.ws.now a.k a.n a.new.now c.requires.0 c.requires.1 l.ws l.i l.j l.invariant (omega arith) (sym c.below.ensures ∙ c.if-below.true)

pub loop-j-preserved : goal.loop-j-preserved
loop-j-preserved c = let l = c.loop-j in
    let a = c.args in
    new_turn a.ws.now a.k a.n a.new.now c.requires.0 c.requires.1 l.ws l.i l.j l.invariant (omega arith) (sym c.below.ensures ∙ c.if-below.false)

pub shape_of-ws : goal.shape_of-ws
shape_of-ws c = c.loop-j.invariant.2

pub returns : goal.returns
returns c = let l = c.loop-j in
    let a = c.args in
    finish a.ws.now a.k a.n a.new.now c.requires.0 c.requires.1 l.ws l.i l.j l.invariant (omega arith)
