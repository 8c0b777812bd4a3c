use Rattle.std.specs.Prelude.{◌+◌}
use Rattle.std.proofs.Common.{ap}
use Rattle.rand_draw.proofs.Laws.{moved_most, sum_below_lem}
use Rattle.rand_draw.proofs.range64.Goals as goal

pub returns : goal.returns
returns c = let w = c.whole64.ensures in
    (ap (λ x. c.args.low + x) w.0, w.1, sum_below_lem _ _ _ w.2, moved_most c.args.c.now c.whole64.new.c c.args.n w.1)
