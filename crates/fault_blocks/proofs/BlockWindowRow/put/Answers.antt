use Rattle.std.proofs.Common.{drop, arith}
use Rattle.table_shift.proofs.Laws.{stored}
use Rattle.fault_blocks.specs.Blocks.{words}
use Rattle.fault_blocks.proofs.BlockWindowRow.put.Goals as goal

pub returns : goal.returns
returns c = let a = c.args in stored a.ws.now a.b a.self.from (drop 1 (words a.self)) (omega arith)
