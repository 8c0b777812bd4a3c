use mathlib.Core.Path.{refl}
use native.Mathlib.Omega.{arith}
use Rattle.table_rings.specs.Rings.{count_of, entries}
use Rattle.table_scan.specs.Scan.{near_entry}
use Rattle.table_scan.proofs.Laws.{goes_on, stops, ends, entries_long, entry_row}
use Rattle.table_rings.specs.Rings.{none}
use Rattle.table_scan.proofs.entries_near.Goals as goal

pub count-count-requires : goal.count-count-requires
count-count-requires c = c.requires.0

pub loop-k-init : goal.loop-k-init
loop-k-init c = (c.count-count.ensures, omega arith, refl)

pub get-e-requires : goal.get-e-requires
get-e-requires c = c.requires.0

pub returns-then-not-admits_entry : goal.returns-then-not-admits_entry
returns-then-not-admits_entry c = let a = c.args in
    let w = a.ws.now in
    stops (near_entry a.l) (entries a.rings w a.r) (count_of w a.r) (entries_long a.rings w a.r) c.loop-k.k c.get-e.result
    c.admits_entry.result (omega arith) (entry_row a.rings w a.r c.loop-k.k c.get-e.result c.requires.1
    (omega arith) c.get-e.ensures) c.admits_entry.ensures c.if-not-admits_entry.true

pub loop-k-preserved : goal.loop-k-preserved
loop-k-preserved c = let a = c.args in
    let w = a.ws.now in (
      c.loop-k.invariant.0,
      omega arith,
      goes_on (near_entry a.l) (entries a.rings w a.r) (count_of w a.r) (entries_long a.rings w a.r) c.loop-k.k
          c.get-e.result c.admits_entry.result (omega arith)
          (entry_row a.rings w a.r c.loop-k.k c.get-e.result c.requires.1 (omega arith) c.get-e.ensures)
          c.admits_entry.ensures c.if-not-admits_entry.false c.loop-k.invariant.2,
    )

pub returns : goal.returns
returns c = let a = c.args in
    let w = a.ws.now in
    ends (near_entry a.l) (entries a.rings w a.r) (count_of w a.r) (entries_long a.rings w a.r) c.loop-k.k none (omega arith) c.loop-k.invariant.2
