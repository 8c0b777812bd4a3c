use Rattle.fault_rules.proofs.Laws.{fire_there, fire_past}
use Rattle.std.proofs.Common.{refl}
use Rattle.fault_rules.proofs.fire.Goals as goal

pub returns-then-p-ws : goal.returns-then-p-ws
returns-then-p-ws c = fire_there c.args.ws.now c.args.p _ _ refl refl

pub returns-else-p-ws : goal.returns-else-p-ws
returns-else-p-ws c = fire_past c.args.ws.now c.args.p c.if-p-ws.false
