use Rattle.std.proofs.Common.{◌∙◌}
use Rattle.fault_rules.proofs.Laws.{fired_none, fired_there}
use Rattle.fault_rules.proofs.fired.Goals as goal

pub returns-in_err-p : goal.returns-in_err-p
returns-in_err-p c = let a = c.args in c.from_residual.ensures ∙ fired_none a.id a.ws.now a.n c.in_err-p.ensures

pub returns : goal.returns
returns c = let a = c.args in fired_there a.id a.ws.now a.n _ c.in_ok-p.ensures.0 c.in_ok-p.ensures.1
