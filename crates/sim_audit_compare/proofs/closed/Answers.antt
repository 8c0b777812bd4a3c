use Rattle.std.proofs.Common.{length, refl, sym, ◌∙◌, arith, rules}
use Rattle.std.proofs.lemmas.Grind.{common_steps}
use Rattle.sim_audit_compare.proofs.Laws.{none_left, closed_on}
use Rattle.sim_audit_compare.proofs.closed.Goals as goal

pub loop-own-init : goal.loop-own-init
loop-own-init c = (length c.args.book.now, omega arith, refl)

pub loop-own-preserved : goal.loop-own-preserved
loop-own-preserved c = closed_on _ _ _ _ _ c.in-Some.ensures.0 (search rules) c.loop-own.invariant.1 c.loop-own.invariant.2

pub returns : goal.returns
returns c = sym (none_left c.loop-own.invariant.0 _ _ c.in_default.ensures) ∙ c.loop-own.invariant.2
