use Prim.Native.Nat.{ℕ}
use mathlib.Core.Path.{refl}
use native.Mathlib.Omega.{arith}
use Rattle.table_rows.specs.Lists.{up_to}
use Rattle.table_scan.specs.Scan.{ring_near, rings_near}
use Rattle.table_scan.proofs.Laws.{goes_on, stops, ends, number_row, numbers_long}
use Rattle.table_scan.proofs.rings_near.Goals as goal

pub loop-r-init : goal.loop-r-init
loop-r-init c = (omega arith, refl)

pub ring_near-requires : goal.ring_near-requires
ring_near-requires c = record { there = omega arith; room = c.requires }

pub returns-then-not-ring_near : goal.returns-then-not-ring_near
unfolding rings_near
returns-then-not-ring_near c = let a = c.args in
    stops (ring_near a.l a.rings a.ws.now) (up_to a.rings (λ (k : ℕ). k)) a.rings (numbers_long a.rings) c.loop-r.r c.loop-r.r c.ring_near.result (omega arith)
    (number_row a.rings c.loop-r.r c.loop-r.r (omega arith)) c.ring_near.ensures c.if-not-ring_near.true

pub loop-r-preserved : goal.loop-r-preserved
loop-r-preserved c = let a = c.args in (
  omega arith,
  goes_on (ring_near a.l a.rings a.ws.now) (up_to a.rings (λ (k : ℕ). k)) a.rings (numbers_long a.rings) c.loop-r.r c.loop-r.r c.ring_near.result (omega arith)
      (number_row a.rings c.loop-r.r c.loop-r.r (omega arith)) c.ring_near.ensures c.if-not-ring_near.false c.loop-r.invariant.1,
)

pub returns : goal.returns
unfolding rings_near
returns c = let a = c.args in
    ends (ring_near a.l a.rings a.ws.now) (up_to a.rings (λ (k : ℕ). k)) a.rings (numbers_long a.rings) c.loop-r.r 0 (omega arith) c.loop-r.invariant.1
