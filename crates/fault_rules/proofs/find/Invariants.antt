use Rattle.std.proofs.Common.{◌≡◌, ◌+◌, ◌-◌, ◌*◌, drop}
use Rattle.fault_rules.specs.Rules.{rule_width, rules_of, index_of}
use Rattle.fault_rules.proofs.find.Given as goal

-- none of the first i rules has the id
abbrev pub invariant-loop-i : goal.invariant-loop-i
invariant-loop-i l = index_of l.id (rules_of l.ws l.n) ≡ l.i + index_of l.id (rules_of (drop (l.i * rule_width) l.ws) (l.n - l.i))
