use Rattle.std.proofs.Common.{◌++◌, drop, replicate, ap, ◌∙◌}
use lib.Seq.{length-take-le}
use Rattle.table_log.specs.Log.{cleared_at, records_at}
use Rattle.table_log.proofs.clear.Goals as goal

pub returns : goal.returns
unfolding cleared_at
returns c =
    let w = c.args.log.now in
    ap (λ x. x ++ drop records_at w) (c.fill.ensures.after (λ y e. e) ∙ ap (λ k. replicate k 0) (length-take-le records_at w c.requires))
