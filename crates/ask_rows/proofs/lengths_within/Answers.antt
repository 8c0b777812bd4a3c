use Rattle.ask_rows.proofs.Tests.{byte_on, byte_off, bytes_done}
use Rattle.table_scan.proofs.Laws.{column_in}
use native.Mathlib.Omega.{arith}
use mathlib.Core.Path.{refl}
use Rattle.ask_rows.proofs.lengths_within.Goals as goal

pub loop-i-init : goal.loop-i-init
loop-i-init c = (omega arith, refl)

pub overflow_mul-i : goal.overflow_mul-i
overflow_mul-i c = let a = c.args in let q = column_in a.names.now a.start a.stride a.n c.loop-i.i _ (omega arith) refl c.requires.0 c.requires.1 in omega arith

pub overflow_add-start : goal.overflow_add-start
overflow_add-start c = let a = c.args in let q = column_in a.names.now a.start a.stride a.n c.loop-i.i _ (omega arith) refl c.requires.0 c.requires.1 in omega arith

pub bounds-names-start : goal.bounds-names-start
bounds-names-start c = let a = c.args in let q = column_in a.names.now a.start a.stride a.n c.loop-i.i _ (omega arith) refl c.requires.0 c.requires.1 in omega arith

pub returns-then-names-start : goal.returns-then-names-start
returns-then-names-start c = byte_off c.args.names.now c.args.start c.args.stride c.args.n c.args.limit c.loop-i.i _ (omega arith) refl c.if-names-start.true

pub loop-i-preserved : goal.loop-i-preserved
loop-i-preserved c = (omega arith, byte_on c.args.names.now c.args.start c.args.stride c.args.n c.args.limit c.loop-i.i _ (omega arith) refl c.if-names-start.false c.loop-i.invariant.1)

pub returns : goal.returns
returns c = bytes_done c.args.names.now c.args.start c.args.stride c.args.n c.args.limit c.loop-i.i (omega arith) c.loop-i.invariant.1
