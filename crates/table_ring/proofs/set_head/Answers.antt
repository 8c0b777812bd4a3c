use mathlib.Core.List.{◌∷◌, []}
use native.Mathlib.Omega.{arith}
use lib.ListN.{length-set}
use Rattle.table_shift.proofs.Laws.{stored}
use Rattle.table_ring.proofs.set_head.Goals as goal

pub bounds-ws-h-2 : goal.bounds-ws-h-2
bounds-ws-h-2 c = simp length-set (omega arith)

pub returns : goal.returns
returns c = let a = c.args in stored a.ws.now a.h a.count (a.first ∷ []) (omega arith)
