-- Document 01, fault engine (`decide`): a decision on a message, the rules in install order, and the fault stream's words from its count on.
use Rattle.std.specs.Prelude.{Bool, true, false, cond, not, List, [], ◌∷◌, ℕ, ◌+◌, Float, Option, Some, None}
use Rattle.std.specs.Float.Ieee.{le}
use Rattle.rand_streams.specs.Streams.{word_pair}
use Rattle.rand_draw.specs.Fraction.{fraction}
use Rattle.fault_rule.specs.declared.FaultAction.{FaultAction}
use Rattle.fault_rule.specs.declared.FaultAction.TheVariants.{Drop, DropWithProbability}
use Rattle.fault_rule.specs.declared.MessageContext.{MessageContext}
use Rattle.fault_rule.specs.Rule.{rule_of, applies}
use Rattle.fault_rules.specs.declared.FaultRule.{FaultRule}
use Rattle.fault_rules.specs.Rules.{fire_at}

-- whether a rule drops a message, and the fault stream's word count after it
pub record Tried : Type 0 where
  pub drops : Bool
  pub words : ℕ

-- whether a message is dropped, by the rule at which place (their number where none does), and the word count after it
pub record Decision : Type 0 where
  pub drops : Bool
  pub place : ℕ
  pub words : ℕ

abbrev pub tried : Bool → ℕ → Tried
tried drops words = record { drops = drops; words = words }

-- what `decide` answers over n rules, with the fault stream at that count afterwards
abbrev pub decision : Option ℕ → ℕ → ℕ → Decision
decision (Some i) n w = record { drops = true; place = i; words = w }
decision None n w = record { drops = false; place = n; words = w }

-- whether a probability drops at a draw: unless the draw's fraction is at least the probability, so a NaN drops
unfoldable pub hits : Float → ℕ → Bool
hits p d = not (le p (fraction d))

-- a plain drop takes no draw; a probability takes one, which is two words, whether it hits or not
unfoldable pub try_action : List ℕ → FaultAction → ℕ → Tried
try_action key Drop w = record { drops = true; words = w }
try_action key (DropWithProbability p) w = record { drops = hits p (word_pair key w); words = w + 2 }

-- a rule that does not apply takes no draw and drops nothing
unfoldable pub try_rule : List ℕ → MessageContext → FaultRule → ℕ → Tried
try_rule key m r w = cond (applies (rule_of r.spec) m) (try_action key (rule_of r.spec).action w) (record { drops = false; words = w })

-- the decision of a list whose first k rules passed
abbrev pub after : ℕ → Decision → Decision
after k d = record { drops = d.drops; place = d.place + k; words = d.words }

-- the first rule that drops decides
unfoldable pub decide_of : List ℕ → MessageContext → List FaultRule → ℕ → Decision
decide_of key m [] w = record { drops = false; place = 0; words = w }
decide_of key m (r ∷ rs) w =
    let t = try_rule key m r w in
    cond t.drops (record { drops = true; place = 0; words = t.words }) (after 1 (decide_of key m rs t.words))

-- the rules after a decision: the one that dropped the message has fired once more
abbrev pub rules_after : Decision → List FaultRule → List FaultRule
rules_after d rs = cond d.drops (fire_at d.place rs) rs
