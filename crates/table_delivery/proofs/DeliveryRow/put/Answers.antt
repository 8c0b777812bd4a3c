use Rattle.std.proofs.Common.{drop, arith}
use Rattle.table_shift.proofs.Laws.{stored}
use Rattle.table_delivery.specs.Delivery.{words}
use Rattle.table_delivery.proofs.DeliveryRow.put.Goals as goal

pub returns : goal.returns
returns c = let a = c.args in stored a.ws.now a.b a.self.from (drop 1 (words a.self)) (omega arith)
