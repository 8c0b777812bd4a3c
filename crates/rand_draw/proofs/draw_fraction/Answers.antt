use Rattle.rand_draw.proofs.Real.{fraction_at_lem}
use Rattle.rand_draw.proofs.draw_fraction.Goals as goal

pub returns : goal.returns
returns c = let d = c.draw64.ensures in
    (fraction_at_lem c.args.c.now.key c.args.c.now.count d.0 c.fraction.ensures, d.1)
