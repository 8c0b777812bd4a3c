use Rattle.std.specs.Prelude.{ℕ}
use Rattle.std.proofs.Common.{sym, ap, ◌∙◌}
use Rattle.fault_decide.specs.Decide.{decision, decide_of}
use Rattle.fault_rules.specs.Rules.{rules_of}
use Rattle.spec_network.specs.Tables.{cell, settings_at, rules_at, fault_words_at}
use Rattle.spec_network.specs.Real.{fault_key_of}
use Rattle.std.specs.Prelude.{None}
use Rattle.call_offer.specs.Offering.{context_of}
use Rattle.call_offer.proofs.decided.Goals as goal

pub returns-then-n-eq0 : goal.returns-then-n-eq0
unfolding decide_of
returns-then-n-eq0 c = let a = c.args in
    let e = c.if-n-eq0.true in
    ap (λ (n : ℕ). decision None n (cell a.net.now fault_words_at)) e
    ∙ sym (ap (λ (n : ℕ). decide_of (fault_key_of (settings_at a.setup.now).fault_key) (context_of a.m a.to) (rules_of a.rules.now n) (cell a.net.now fault_words_at)) e)

pub returns : goal.returns
returns c = let a = c.args in
    let f = c.fault_at-f.ensures in
    c.decide-place.ensures.0 ∙ (λ j. decide_of (f.key j) (context_of a.m a.to) (rules_of a.rules.now (cell a.net.now rules_at)) (f.count j))
