use Rattle.std.proofs.Common.{refl, sym, ◌∙◌}
use Rattle.fault_rules.proofs.Laws.{rule_drop}
use Rattle.fault_decide.proofs.Laws.{meets, passes}
use Rattle.fault_decide.proofs.row_drops.Goals as goal

pub returns-then-applies : goal.returns-then-applies
returns-then-applies c = (
  meets c.args.c.now.key c.args.m _ _ _ _ (c.get-row.ensures ∙ sym (rule_drop c.args.ws.now c.args.b)) c.from-rule.ensures (sym c.applies.ensures ∙
      c.if-applies.true) c.drops.ensures.0,
  c.drops.ensures.1,
)

pub returns-else-applies : goal.returns-else-applies
returns-else-applies c =
    (passes c.args.c.now.key c.args.m _ _ _ _ (c.get-row.ensures ∙ sym (rule_drop c.args.ws.now c.args.b)) c.from-rule.ensures c.applies.ensures c.if-applies.false, refl)
