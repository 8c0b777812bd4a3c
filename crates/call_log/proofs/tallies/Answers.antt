use Rattle.call_log.proofs.Laws.{cells_held}
use Rattle.call_log.proofs.tallies.Goals as goal

pub returns : goal.returns
returns c = cells_held c.args.log.now _ c.requires c.copy_front.ensures
