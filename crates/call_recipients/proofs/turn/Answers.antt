use Rattle.call_recipients.proofs.Turns.{can_apply, passed_by, taken_up}
use native.Mathlib.Omega.{arith}
use mathlib.Core.Path.{sym, ◌∙◌}
use Rattle.call_recipients.proofs.turn.Goals as goal

pub returns-then-not-selects : goal.returns-then-not-selects
returns-then-not-selects c = let a = c.args in passed_by a.fixed.setup.now a.fixed.tills.now a.fixed.keys.now a.fixed.prices.now a.fixed.blocks.now a.net.now a.words.now
    a.seen.now a.waiting.now a.rings.now a.rules.now a.m a.to a.c (sym c.selects.ensures ∙ c.if-not-selects.true)

pub consider-r-requires : goal.consider-r-requires
consider-r-requires c = (c.requires.0, c.requires.2.state, c.requires.1, c.requires.3, c.requires.2.fresh c.args.to (omega arith) c.requires.3 (sym c.selects.ensures ∙ c.if-not-selects.false))

pub apply-requires : goal.apply-requires
apply-requires c = let a = c.args in can_apply a.fixed.setup.now a.fixed.tills.now a.fixed.keys.now a.fixed.prices.now a.fixed.blocks.now a.net.now a.words.now
    a.seen.now a.waiting.now a.rings.now a.rules.now a.m a.to c.requires.0 c.requires.1 c.requires.2 c.requires.3
    (sym c.selects.ensures ∙ c.if-not-selects.false) c.consider-r.result c.consider-r.ensures

pub count-requires : goal.count-requires
count-requires c = omega (arith, c.requires.4, c.requires.3, c.requires.0.priced.tills)

pub returns : goal.returns
returns c = let a = c.args in taken_up a.fixed.setup.now a.fixed.tills.now a.fixed.keys.now a.fixed.prices.now a.fixed.blocks.now a.net.now a.words.now
    a.seen.now a.waiting.now a.rings.now a.rules.now a.m a.to _ _ _ _ _ _ a.c _ c.consider-r.result
    (sym c.selects.ensures ∙ c.if-not-selects.false) c.consider-r.ensures c.apply.ensures c.count.ensures
