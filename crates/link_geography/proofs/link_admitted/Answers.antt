use borrow.Author.Tests.{le-leb, lt-leb}
use Rattle.link_geography.proofs.Laws.{slow, long}
use Rattle.link_geography.proofs.link_admitted.Goals as goal

pub returns-then-base : goal.returns-then-base
returns-then-base c = slow c.args.l (le-leb _ _ c.if-base.true)

pub returns-else-base : goal.returns-else-base
returns-else-base c = long c.args.l (lt-leb _ _ c.if-base.false)
