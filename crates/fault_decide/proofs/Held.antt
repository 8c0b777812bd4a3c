-- What a decision takes and names, and the rules that a table holds once a drop is counted.
use mathlib.Core.Path.{◌≡◌}
use mathlib.Core.Bool.{Bool, true, false, cond}
use mathlib.Core.List.{List, [], ◌∷◌}
use Prim.Native.Nat.{ℕ, suc, ◌+◌, ◌*◌, ◌≤◌, ◌<◌}
use native.Mathlib.Omega.{arith}
use lib.ListN.{length}
use Rattle.fault_rule.specs.declared.FaultAction.{FaultAction}
use Rattle.fault_rule.specs.declared.FaultAction.TheVariants.{Drop, DropWithProbability}
use Rattle.fault_rule.specs.declared.MessageContext.{MessageContext}
use Rattle.fault_rule.specs.Rule.{rule_of, applies}
use Rattle.fault_rules.specs.declared.FaultRule.{FaultRule}
use Rattle.fault_decide.specs.Decide.{Tried, Decision, try_action, try_rule, after, decide_of}

abbrev verdict : Bool → ℕ → ℕ → Decision
verdict d p w = record { drops = d; place = p; words = w }

module _ (key : List ℕ) (m : MessageContext) where
  action_words : (a : FaultAction) (w : ℕ) → (try_action key a w).words ≤ w + 2
  unfolding try_action
  action_words Drop w = omega arith
  action_words (DropWithProbability p) w = omega arith

  choice_words : (b : Bool) (t : Tried) (w : ℕ) → t.words ≤ w + 2 → (cond b t (record { drops = false; words = w })).words ≤ w + 2
  choice_words true t w h = h
  choice_words false t w h = omega arith

  pub rule_words : (r : FaultRule) (w : ℕ) → (try_rule key m r w).words ≤ w + 2
  unfolding try_rule
  rule_words r w = choice_words (applies (rule_of r.spec) m) (try_action key (rule_of r.spec).action w) w (action_words (rule_of r.spec).action w)

  words_step : (b : Bool) (u w : ℕ) (v : Decision) (k : ℕ) → u ≤ w + 2 → v.words ≤ u + 2 * k → (cond b (verdict true 0 u) (after 1 v)).words ≤ w + 2 * suc k
  words_step true u w v k h j = omega arith
  words_step false u w v k h j = omega arith

  -- a decision takes two words a rule at most
  pub decide_words : (rs : List FaultRule) (w : ℕ) → (decide_of key m rs w).words ≤ w + 2 * length rs
  unfolding decide_of
  decide_words [] w = omega arith
  decide_words (r ∷ rs) w =
      let t : Tried = try_rule key m r w in
      words_step t.drops t.words w (decide_of key m rs t.words) (length rs) (rule_words r w) (decide_words rs t.words)

  place_step : (b : Bool) (u : ℕ) (v : Decision) (k : ℕ) → (v.drops ≡ true → v.place < k) → (cond b (verdict true 0 u) (after 1 v)).drops ≡ true
      → (cond b (verdict true 0 u) (after 1 v)).place < suc k
  place_step true u v k h e = omega arith
  place_step false u v k h e = let q = h e in omega arith

  -- a drop names a rule of the list
  pub decide_place : (rs : List FaultRule) (w : ℕ) → (decide_of key m rs w).drops ≡ true → (decide_of key m rs w).place < length rs
  unfolding decide_of
  decide_place [] w e = let z : ◌≡◌ {A = ℕ} 0 1 = cc in absurd (omega arith)
  decide_place (r ∷ rs) w e =
      let t : Tried = try_rule key m r w in
      place_step t.drops t.words (decide_of key m rs t.words) (length rs) (decide_place rs t.words) e
