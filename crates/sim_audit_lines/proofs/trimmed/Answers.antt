use Rattle.sim_audit_lines.proofs.Laws.{trim_all, trim_at}
use Rattle.sim_audit_lines.proofs.trimmed.Goals as goal

pub returns-in-Some : goal.returns-in-Some
returns-in-Some c = trim_at _ _ c.in-Some.ensures.0 c.in-Some.ensures.1 c.in-Some.ensures.2

pub returns-in-None : goal.returns-in-None
returns-in-None c = trim_all _ c.in-None.ensures
