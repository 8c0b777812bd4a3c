use Rattle.std.proofs.Common.{◌∙◌, arith}
use Rattle.table_log.proofs.Writing.{tally_none, tally_row}
use Rattle.table_log.proofs.class_tally.Goals as goal

pub returns-then-class-ge-CLASSES : goal.returns-then-class-ge-CLASSES
returns-then-class-ge-CLASSES c =
    let d = c.default.ensures in
    (λ i. record { deliveries = d.0 i; bytes = d.1 i }) ∙ tally_none c.args.log.now c.args.class c.if-class-ge-CLASSES.true

pub returns : goal.returns
returns c = c.get.ensures ∙ tally_row c.args.log.now c.args.class (omega arith)
