-- What each rule does to a message, and the loop of `decide`.
use mathlib.Core.Path.{◌≡◌, refl, sym, ap, ◌∙◌}
use mathlib.Core.Bool.{Bool, true, false, cond, not}
use mathlib.Core.List.{List, [], ◌∷◌}
use Prim.Native.Nat.{ℕ, ◌+◌, ◌*◌, ◌-◌, ◌≤◌, ◌<◌}
use native.Mathlib.Nat.{zero-add}
use native.Mathlib.Omega.{arith}
use lib.ListN.{drop}
use lib.Ieee.{Float, le}
use Rattle.rand_streams.specs.declared.Cursor.{Cursor}
use Rattle.rand_streams.specs.Streams.{Moved}
use Rattle.rand_draw.specs.Fraction.{fraction_at}
use Rattle.fault_rule.specs.declared.FaultAction.TheVariants.{DropWithProbability}
use Rattle.fault_rule.specs.declared.MessageContext.{MessageContext}
use Rattle.fault_rule.specs.declared.Rule.{Rule}
use Rattle.fault_rule.specs.Rule.{rule_of, applies}
use Rattle.fault_rule.proofs.Laws.{yes, no}
use Rattle.table_rows.proofs.Rows.{drop_rows}
use Rattle.fault_rules.specs.declared.FaultRule.{FaultRule}
use Rattle.fault_rules.specs.Rules.{rule_width, rule_at, first_rule, rules_of}
use Rattle.fault_rules.proofs.Laws.{rules_from}
use Rattle.fault_decide.specs.Decide.{Tried, Decision, tried, hits, try_action, try_rule, after, decide_of}
use Rattle.fault_decide.proofs.Held.{rule_words}

abbrev verdict : Bool → ℕ → ℕ → Decision
verdict d p w = record { drops = d; place = p; words = w }

after_after : (i k : ℕ) (d : Decision) → after i (after k d) ≡ after (i + k) d
after_after i k d = let q : d.place + k + i ≡ d.place + (i + k) = omega arith in ap (λ (p : ℕ). verdict d.drops p d.words) q

-- ---- a probability's draw
pub drawn : (c d : Cursor) (p : Float) {x : Float} → x ≡ fraction_at c.key c.count → Moved c 2 d → tried (not (le p x)) d.count ≡ try_action c.key (DropWithProbability p) c.count
unfolding try_action hits fraction_at
drawn c d p e m = ap (λ y. tried (not (le p y)) d.count) e ∙ ap (tried (not (le p (fraction_at c.key c.count)))) m.count

-- ---- a rule as its row says
module _ (key : List ℕ) (m : MessageContext) (row : FaultRule) (w : ℕ) (spec : FaultRule) (r : Rule) (same : spec ≡ row) (is : r ≡ rule_of spec.spec) where
  rule_is : r ≡ rule_of row.spec
  rule_is = is ∙ ap (λ (x : FaultRule). rule_of x.spec) same

  pub meets : applies r m ≡ true → {t : Tried} → t ≡ try_action key r.action w → t ≡ try_rule key m row w
  unfolding try_rule
  meets h e = yes _ _ _ _ (ap (λ (x : Rule). applies x m) (sym rule_is) ∙ h) (e ∙ ap (λ (x : Rule). try_action key x.action w) rule_is)

  pub passes : {b : Bool} → b ≡ applies r m → b ≡ false → tried b w ≡ try_rule key m row w
  unfolding try_rule
  passes e h = ap (λ y. tried y w) h ∙ no _ _ _ _ (ap (λ (x : Rule). applies x m) (sym rule_is) ∙ sym e ∙ h) refl

-- the rules from place i on
rules_at_lem : (ws : List ℕ) (n i : ℕ) → i < n → drop i (rules_of ws n) ≡ rule_at ws (i * rule_width) ∷ drop (i + 1) (rules_of ws n)
rules_at_lem ws n i h =
    rules_from ws n i h ∙ ap (λ (l : List FaultRule). rule_at ws (i * rule_width) ∷ l) (sym (drop_rows rule_width first_rule ws n (i + 1) (omega arith)))

rules_past : (ws : List ℕ) (n : ℕ) → drop n (rules_of ws n) ≡ []
rules_past ws n = let z : n - n ≡ 0 = omega arith in drop_rows rule_width first_rule ws n n (omega arith) ∙ ap (rules_of (drop (n * rule_width) ws)) z

-- ---- the loop of `decide`: the rules before place i drop nothing, from a cursor to another
pub record Scanned (ws : List ℕ) (n : ℕ) (m : MessageContext) (c : Cursor) (i : ℕ) (cursor : Cursor) : Type 0 where
  pub few : cursor.count ≤ c.count + 2 * i
  pub key : cursor.key ≡ c.key
  pub rest : decide_of c.key m (rules_of ws n) c.count ≡ after i (decide_of c.key m (drop i (rules_of ws n)) cursor.count)

module _ (ws : List ℕ) (n : ℕ) (m : MessageContext) (c : Cursor) where
  module _ (i : ℕ) (cursor : Cursor) (s : Scanned ws n m c i cursor) (h : i < n) (next : Cursor) (k : next.key ≡ cursor.key) {b : Bool}
      (does : tried b next.count ≡ try_rule cursor.key m (rule_at ws (i * rule_width)) cursor.count) where
    does_so : tried b next.count ≡ try_rule c.key m (rule_at ws (i * rule_width)) cursor.count
    does_so = does ∙ ap (λ x. try_rule x m (rule_at ws (i * rule_width)) cursor.count) s.key

    here : decide_of c.key m (rules_of ws n) c.count ≡ after i (cond b (verdict true 0 next.count) (after 1 (decide_of c.key m (drop (i + 1) (rules_of ws n)) next.count)))
    unfolding decide_of
    here = s.rest ∙ ap (λ (l : List FaultRule). after i (decide_of c.key m l cursor.count)) (rules_at_lem ws n i h)
        ∙ ap (λ (x : Tried). after i (cond x.drops (verdict true 0 x.words) (after 1 (decide_of c.key m (drop (i + 1) (rules_of ws n)) x.words)))) (sym does_so)

    pub hit : b ≡ true → (verdict true i next.count ≡ decide_of c.key m (rules_of ws n) c.count) × (next.key ≡ c.key)
    hit e = (
      ap (λ p. verdict true p next.count) (sym (zero-add i)) ∙
          sym (here ∙ ap (λ x. after i (cond x (verdict true 0 next.count) (after 1 (decide_of c.key m (drop (i + 1) (rules_of ws n)) next.count)))) e),
      k ∙ s.key,
    )

    pub missed : b ≡ false → Scanned ws n m c (i + 1) next
    missed e =
        record {
          few = omega (arith, s.few, ap (λ (x : Tried). x.words) does, rule_words cursor.key m (rule_at ws (i * rule_width)) cursor.count);
          key = k ∙ s.key;
          rest = here ∙ ap (λ x. after i (cond x (verdict true 0 next.count) (after 1 (decide_of c.key m (drop (i + 1) (rules_of ws n)) next.count)))) e ∙ after_after i 1 _;
        }

  pub ended : (i : ℕ) (cursor : Cursor) → Scanned ws n m c i cursor → i ≡ n → (verdict false n cursor.count ≡ decide_of c.key m (rules_of ws n) c.count) × (cursor.key ≡ c.key)
  unfolding decide_of
  ended i cursor s e =
      let f : verdict false i cursor.count ≡ decide_of c.key m (rules_of ws n) c.count
      = ap (λ (k : ℕ). verdict false k cursor.count) (sym (zero-add i))
      ∙ ap (λ (l : List FaultRule). after i (decide_of c.key m l cursor.count)) (sym (ap (λ k. drop k (rules_of ws n)) e ∙ rules_past ws n)) ∙ sym s.rest in
      (ap (λ k. verdict false k cursor.count) (sym e) ∙ f, s.key)
