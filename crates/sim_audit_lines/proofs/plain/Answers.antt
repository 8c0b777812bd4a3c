use Rattle.std.proofs.Common.{arith}
use Rattle.std.proofs.lemmas.Grind.{common_steps}
use Rattle.sim_audit_lines.proofs.Laws.{plain_on}
use Rattle.sim_audit_lines.proofs.plain.Goals as goal

pub loop-end-preserved : goal.loop-end-preserved
loop-end-preserved c =
    plain_on c.args.book.now _ (omega arith) (grind (arith, common_steps, c.is_added.ensures, c.if-is_added.false)) c.loop-end.invariant
