use Rattle.std.proofs.Common.{ap, ◌∙◌}
use Rattle.fault_rule.specs.Rule.{forward}
use Rattle.ask_rule.proofs.Laws.{inexact, is_turned, is_exact}
use Rattle.ask_rule.proofs.exact.Goals as goal

pub returns-in_default : goal.returns-in_default
returns-in_default c = inexact c.args.card.now _ c.read.ensures c.in_default.is

pub returns-then-not-is_forward : goal.returns-then-not-is_forward
returns-then-not-is_forward c = is_turned c.args.card.now _ _ c.read.ensures c.in-Some.is _ (c.is_forward.ensures ∙ ap forward c.window.ensures) c.if-not-is_forward.true

pub returns : goal.returns
returns c = is_exact c.args.card.now _ _ c.read.ensures c.in-Some.is _ (c.is_forward.ensures ∙ ap forward c.window.ensures) c.if-not-is_forward.false
