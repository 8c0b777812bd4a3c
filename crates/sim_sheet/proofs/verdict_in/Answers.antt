use Rattle.sim_sheet.proofs.Laws.{agreeing, differing}
use Rattle.sim_sheet.proofs.verdict_in.Goals as goal

pub returns-then-same : goal.returns-then-same
returns-then-same c = agreeing _ _ _ _ c.if-same.true c.right.ensures

pub returns : goal.returns
returns c = differing _ _ _ _ c.if-same.false c.right-2.ensures
