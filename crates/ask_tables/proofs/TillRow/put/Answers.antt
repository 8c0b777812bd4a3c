use Rattle.std.proofs.Common.{drop, arith}
use Rattle.table_shift.proofs.Laws.{stored}
use Rattle.ask_tables.specs.TillRow.{words}
use Rattle.ask_tables.proofs.TillRow.put.Goals as goal

pub returns : goal.returns
returns c = let a = c.args in stored a.ws.now a.b a.self.up (drop 1 (words a.self)) (omega arith)
