use Rattle.std.proofs.Common.{◌∙◌, arith}
use Rattle.table_log.proofs.Writing.{tally_out, tally_made}
use Rattle.table_log.proofs.add_tally.Goals as goal

pub returns-then-class-ge-CLASSES : goal.returns-then-class-ge-CLASSES
returns-then-class-ge-CLASSES c = let a = c.args in tally_out a.log.now a.class a.wire c.if-class-ge-CLASSES.true

pub returns : goal.returns
returns c = let a = c.args in c.put.ensures ∙ tally_made a.log.now a.class a.wire _ (omega arith) c.get-t.ensures
