use Rattle.table_waiting.specs.Waiting as waiting
use Prim.Native.Nat.{◌+◌}
use native.Mathlib.Omega.{arith}
use lib.ListN.{length-set}
use Rattle.call_flush_pass.proofs.Leaves.{row_made}
use Rattle.call_flush_pass.proofs.put_row.Goals as goal

pub bounds-out-b-2 : goal.bounds-out-b-2
bounds-out-b-2 c = omega (arith, c.put.auto.ws, c.requires, length-set c.put.new.ws (c.args.b + waiting.width) c.from.result)

pub returns : goal.returns
returns c = let a = c.args in row_made a.out.now _ a.b a.c a.k _ _ c.from.ensures c.from-2.ensures c.requires c.put.ensures
