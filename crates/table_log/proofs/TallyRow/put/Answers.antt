use Rattle.std.proofs.Common.{[], ◌∷◌, arith}
use Rattle.table_shift.proofs.Laws.{stored}
use Rattle.table_log.proofs.TallyRow.put.Goals as goal

pub returns : goal.returns
returns c = let a = c.args in stored a.ws.now a.b a.self.deliveries (a.self.bytes ∷ []) (omega arith)
