use native.Mathlib.Omega.{arith}
use Prim.Native.Nat.{◌-◌}
use mathlib.Core.Path.{refl, ◌∙◌}
use Rattle.table_ring.specs.Ring.{first_at}
use Rattle.table_scan.specs.Scan.{near}
use Rattle.table_scan.proofs.Runs.{none_there, in_one, not_ahead, ahead_then}
use Rattle.table_scan.proofs.records_near.Goals as goal

pub returns-then-count-eq0 : goal.returns-then-count-eq0
returns-then-count-eq0 c = none_there (near c.args.l) c.args.capacity c.args.ws.now (omega arith)

pub overflow_sub-ahead : goal.overflow_sub-ahead
overflow_sub-ahead c = omega (arith, c.requires.1.begun (omega arith))

pub overflow_mul-start : goal.overflow_mul-start
overflow_mul-start c = omega (arith, c.requires.1.begun (omega arith))

pub overflow_add-start : goal.overflow_add-start
overflow_add-start c = omega (arith, c.requires.1.begun (omega arith))

pub returns-then-count-ahead : goal.returns-then-count-ahead
returns-then-count-ahead c = let a = c.args in
    in_one (near a.l) a.capacity a.ws.now c.run_near.result (omega (arith, c.requires.1.begun (omega arith))) c.run_near.ensures

pub run_near-requires-2 : goal.run_near-requires-2
run_near-requires-2 c = omega (arith, c.requires.1.begun (omega arith))

pub returns-else-run_near : goal.returns-else-run_near
returns-else-run_near c = c.if-run_near.false ∙
    not_ahead (near c.args.l) c.args.capacity c.args.ws.now (c.args.capacity - first_at 0 c.args.ws.now) (c.requires.1.begun (omega arith)) refl (omega arith)
    c.run_near-2.result c.run_near-2.ensures c.if-run_near.false

pub returns-then-run_near : goal.returns-then-run_near
returns-then-run_near c = ahead_then (near c.args.l) c.args.capacity c.args.ws.now (c.args.capacity - first_at 0 c.args.ws.now) (c.requires.1.begun (omega arith))
    refl (omega arith) c.run_near-2.result c.run_near-then-run_near.result c.run_near-2.ensures c.if-run_near.true c.run_near-then-run_near.ensures
