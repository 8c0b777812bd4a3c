use Prim.Native.Nat.{◌+◌, ◌-◌, ◌/◌}
use mathlib.Core.Path.{refl}
use native.Mathlib.Omega.{arith}
use lib.ListN.{get_or}
use Rattle.table_marks.proofs.Search.{narrows, once_none, once_some}
use lib.Dec.{ltb}
use Rattle.table_marks.proofs.halve_once.Goals as goal

pub returns-then-n-eq0-clause-is : goal.returns-then-n-eq0-clause-is
returns-then-n-eq0-clause-is c = let a = c.args in once_none a.ids.now a.id a.s c.if-n-eq0.true

pub returns-clause-is : goal.returns-clause-is
returns-clause-is c = let a = c.args in
    let mid = a.s.lo + (a.s.n - 1) / 2 in
    once_some a.ids.now a.id a.s mid c.select_unpredictable-next.result (get_or a.ids.now mid 0) c.if-n-eq0.false refl refl c.select_unpredictable-next.ensures

pub returns-clause-within : goal.returns-clause-within
returns-clause-within c = let a = c.args in
    let mid = a.s.lo + (a.s.n - 1) / 2 in
    let q = narrows (ltb (get_or a.ids.now mid 0) a.id) a.s.lo a.s.n (omega arith) in omega (arith, q, c.select_unpredictable-next.ensures)
