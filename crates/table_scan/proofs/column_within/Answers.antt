use Rattle.std.proofs.Common.{◌+◌, ◌*◌, ℕ, true, false, get_or, refl, sym, arith, leb}
use borrow.Author.Tests.{le-leb, lt-leb}
use Rattle.table_scan.specs.Scan.{column, column_within}
use Rattle.table_scan.proofs.Laws.{goes_on, stops, ends, column_long, column_row, column_in}
use Rattle.table_scan.proofs.column_within.Goals as goal

pub loop-i-init : goal.loop-i-init
loop-i-init c = (omega arith, refl)

pub overflow_mul-i : goal.overflow_mul-i
overflow_mul-i c = let a = c.args in let i = column_in a.ws.now a.start a.stride a.n c.loop-i.i _ (omega arith) refl c.requires.0 c.requires.1 in omega arith

pub overflow_add-start : goal.overflow_add-start
overflow_add-start c = let a = c.args in let i = column_in a.ws.now a.start a.stride a.n c.loop-i.i _ (omega arith) refl c.requires.0 c.requires.1 in omega arith

pub bounds-ws-start : goal.bounds-ws-start
bounds-ws-start c = let a = c.args in let i = column_in a.ws.now a.start a.stride a.n c.loop-i.i _ (omega arith) refl c.requires.0 c.requires.1 in omega arith

pub returns-then-ws-start : goal.returns-then-ws-start
unfolding column_within
returns-then-ws-start c = let a = c.args in
    let w = a.ws.now in
    let i = c.loop-i.i in
    let at : ℕ = a.start + i * a.stride in
    stops (λ (c : ℕ). leb c a.limit) (column w a.start a.stride a.n) a.n (column_long w a.start a.stride a.n) i (get_or w at 0) false (omega arith)
    (column_row w a.start a.stride a.n i at (omega arith) refl) (sym (lt-leb _ _ c.if-ws-start.true)) refl

pub loop-i-preserved : goal.loop-i-preserved
loop-i-preserved c = let a = c.args in
    let w = a.ws.now in
    let i = c.loop-i.i in
    let at : ℕ = a.start + i * a.stride in (
      omega arith,
      goes_on (λ (c : ℕ). leb c a.limit) (column w a.start a.stride a.n) a.n (column_long w a.start a.stride a.n) i (get_or w at 0) true (omega arith)
          (column_row w a.start a.stride a.n i at (omega arith) refl) (sym (le-leb _ _ c.if-ws-start.false)) refl c.loop-i.invariant.1,
    )

pub returns : goal.returns
unfolding column_within
returns c = let a = c.args in
    let w = a.ws.now in
    ends (λ (c : ℕ). leb c a.limit) (column w a.start a.stride a.n) a.n (column_long w a.start a.stride a.n) c.loop-i.i 0 (omega arith) c.loop-i.invariant.1
