use Rattle.link_geography.proofs.Laws.{one_none, one_some}
use Rattle.link_geography.proofs.at_least_one.Goals as goal

pub returns-then-n-eq0 : goal.returns-then-n-eq0
returns-then-n-eq0 c = one_none c.args.n c.if-n-eq0.true

pub returns-else-n-eq0 : goal.returns-else-n-eq0
returns-else-n-eq0 c = one_some c.args.n c.if-n-eq0.false
