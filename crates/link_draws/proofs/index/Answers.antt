use Rattle.link_draws.proofs.Laws.{picked}
use Rattle.link_draws.proofs.index.Goals as goal

pub returns : goal.returns
returns c = picked c.args.n c.args.c.now c.whole32.result c.whole32.new.c c.whole32.ensures.0 c.whole32.ensures.1 c.whole32.ensures.2
