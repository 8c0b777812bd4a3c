use Rattle.rand_draw.proofs.Real.{real_at_lem}
use Rattle.rand_draw.proofs.draw_real.Goals as goal

pub returns : goal.returns
returns c = let d = c.draw64.ensures in
    (real_at_lem c.args.c.now.key c.args.c.now.count c.args.low c.args.high d.0 c.real_of.ensures, d.1)
