use Rattle.std.proofs.Common.{drop, arith}
use Rattle.table_shift.proofs.Laws.{stored}
use Rattle.table_rings.specs.Rings.{words}
use Rattle.table_rings.proofs.EntryRow.put.Goals as goal

pub returns : goal.returns
returns c = let a = c.args in stored a.ws.now a.b a.self.class (drop 1 (words a.self)) (omega arith)
