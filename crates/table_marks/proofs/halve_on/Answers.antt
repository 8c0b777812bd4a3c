use mathlib.Core.Path.{refl, ap}
use native.Mathlib.Omega.{arith}
use Rattle.table_marks.specs.Marks.{halve}
use Rattle.table_marks.specs.declared.Span.{Span}
use Rattle.table_marks.proofs.Search.{on_more, on_less, on_end}
use Rattle.table_marks.proofs.halve_on.Goals as goal

pub loop-n-init : goal.loop-n-init
loop-n-init c = (omega arith, refl)

pub loop-n-smaller : goal.loop-n-smaller
loop-n-smaller c = let a = c.args in
    let q = on_less a.ids.now a.id (record { lo = c.loop-n.lo; n = c.loop-n.n }) (omega arith) in
    let e = ap (λ (x : Span). x.n) c.halve_once-a.ensures.is in
    omega (arith, q, e)

pub loop-n-preserved : goal.loop-n-preserved
loop-n-preserved c = let a = c.args in
    let l = a.ids.now in (
      let w = c.halve_once-a.ensures.within in omega arith,
      on_more l a.id (halve a.s.n l a.id a.s.lo a.s.n) (record { lo = c.loop-n.lo; n = c.loop-n.n }) c.halve_once-a.result c.halve_once-a.ensures.is c.loop-n.invariant.1,
    )

pub returns-clause-is : goal.returns-clause-is
returns-clause-is c = let a = c.args in
    let l = a.ids.now in
    on_end l a.id (halve a.s.n l a.id a.s.lo a.s.n) c.loop-n.lo c.loop-n.n (omega arith) c.loop-n.invariant.1
