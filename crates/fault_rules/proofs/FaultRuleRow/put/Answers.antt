use Rattle.std.proofs.Common.{drop, arith}
use Rattle.table_shift.proofs.Laws.{stored}
use Rattle.fault_rules.specs.Rules.{words}
use Rattle.fault_rules.proofs.FaultRuleRow.put.Goals as goal

pub returns : goal.returns
returns c = let a = c.args in stored a.ws.now a.b a.self.id (drop 1 (words a.self)) (omega arith)
