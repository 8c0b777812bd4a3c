-- The ways through the rule calls: the verdict, the numbers of the calls, and the ways of each call.
use mathlib.Core.Path.{◌≡◌, refl, sym, ap, ◌∙◌}
use mathlib.Core.Bool.{Bool, true, false, cond, ◌&&◌}
use mathlib.Core.List.{List}
use Prim.Native.Nat.{ℕ, ◌+◌}
use native.Mathlib.Omega.{arith}
use native.Mathlib.Numerals.{add-one}
use lib.Dec.{ltb}
use lib.ListN.{set}
use Rattle.fault_rule.specs.declared.MessageContext.{MessageContext}
use Rattle.table_rows.proofs.Rows.{length_rows}
use Rattle.fault_rules.specs.Rules.{rule_width, rule_slots, most_rules, first_rule, rules_of, reading_of, removed_of, number_in, install_number, install_table, remove_table, fire_table}
use Rattle.fault_rules.specs.declared.InstallError.{InstallError}
use Rattle.fault_rules.specs.declared.InstallError.TheVariants.{Full, Card}
use Rattle.std.specs.Prelude.{Option, Some, None, Result, Ok, Err, IsOk}
use Rattle.fault_rules.specs.declared.Removed.{Removed}
use Rattle.rand_streams.specs.declared.Cursor.{Cursor}
use Rattle.fault_decide.specs.Decide.{Decision, decision, decide_of}
use Rattle.std.specs.Prelude.{Option}
use Rattle.link_geography.specs.Geography.{Stands}
use Rattle.spec_network.specs.Lists.{bit}
use Rattle.spec_network.specs.Calls.{Call, install, remove, decide, reading, fired, fired_of, number, answer_of}
use Rattle.spec_network.specs.Tables.{Tables, cell, sizes_at, settings_at, live, rules_at, installed_at, fault_words_at}
use Rattle.spec_network.specs.Real.{opening_at, draws_of, fault_key_of}
use Rattle.spec_network.specs.Lending.{lend_rules}
use Rattle.spec_network.specs.Writes.{call_reply, step_t, ruled_t}
use Rattle.ask_tables.specs.Held.{setup_held, net_held, rules_held}
use Rattle.ask_tables.proofs.Ladder.{yes, no, under}
use Rattle.call_reply.specs.declared.Value.{Value}
use Rattle.call_reply.specs.Reply.{refused_by, answered_by, found_reply}
use Rattle.call_reply.proofs.Laws as reply
use Rattle.ask_rule.specs.Questions.{rules_lent, lent_number, exact_number, card_number, decide_number}
use Rattle.ask_rule.proofs.Laws.{in_order}
use Rattle.fault_card.specs.Card.{exact}
use Rattle.call_rule.specs.Calls.{Changes}

-- ---- The verdict

-- what the rules say of a message, with the fault stream at its word count
abbrev pub verdict_of : (setup net rules : List ℕ) → MessageContext → Decision
verdict_of s n r m = decide_of (fault_key_of (settings_at s).fault_key) m (rules_of r (cell n rules_at)) (cell n fault_words_at)

pub verdict_is : (s n r : List ℕ) (m : MessageContext) (c : Cursor) {p q : Option ℕ} (w : ℕ) → Stands (fault_key_of (settings_at s).fault_key) (cell n fault_words_at) c
    → q ≡ p → decision q (cell n rules_at) w ≡ decide_of c.key m (rules_of r (cell n rules_at)) c.count → decision p (cell n rules_at) w ≡ verdict_of s n r m
verdict_is s n r m c w at h e = ap (λ (o : Option ℕ). decision o (cell n rules_at) w) (sym h) ∙ e ∙ rw (at.key, at.count)

-- ---- The numbers of the calls

module _ (T : Tables) (s n r : List ℕ) where
  lent_remove : (id : ℕ) → lent_number s n r 0 ≡ (call_reply (lend_rules T s n r) (remove id)).number
  unfolding rules_lent setup_held net_held rules_held
  lent_remove id = refl

  lent_fired : (id : ℕ) → lent_number s n r 0 ≡ (call_reply (lend_rules T s n r) (reading (fired id))).number
  unfolding rules_lent setup_held net_held rules_held
  lent_fired id = refl

  number_install : (card : List ℕ) → card_number s n r card ≡ (call_reply (lend_rules T s n r) (install card)).number
  unfolding card_number exact_number rules_lent setup_held net_held rules_held
  number_install card =
      ap (lent_number s n r) (in_order n card)
      ∙ ap (λ (k : ℕ). lent_number s n r (cond (ltb k rule_slots && ltb (cell n installed_at) most_rules) (exact_number card) 12)) (sym (length_rows rule_width first_rule (cell n rules_at) r))

  number_decide : (m : MessageContext) → decide_number s n r m ≡ (call_reply (lend_rules T s n r) (decide m)).number
  unfolding decide_number rules_lent setup_held net_held rules_held
  number_decide m = refl

-- ---- The ways through a call

module _ (c : Call) (s n r : List ℕ) (N : ℕ) (same : (T : Tables) → N ≡ (call_reply (lend_rules T s n r) c).number) where
  refused_by_lem : (v : Value) → v ≡ refused_by N → (N ≡ 0 → ⊥) → Changes s n r n r c v
  unfolding Changes
  refused_by_lem v q h = λ T. (q ∙ reply.value_refused (lend_rules T s n r) c N (same T) h, reply.stays (lend_rules T s n r) c N (same T) h)

  changed_by : N ≡ 0 → (f v : ℕ) (n' r' : List ℕ) → ((T : Tables) → answer_of (opening_at (lend_rules T s n r)) (live (sizes_at s) (lend_rules T s n r)) c ≡ number f v)
      → ((T : Tables) → step_t (opening_at (lend_rules T s n r)) (lend_rules T s n r) c ≡ lend_rules T s n' r') → (w : Value) →
      w ≡ record { number = 0; found = f; value = v } → Changes s n r n' r' c w
  unfolding Changes
  changed_by h f v n' r' answer step w w-is = λ T. (w-is ∙ reply.value (lend_rules T s n r) c N (same T) h f v (answer T), reply.steps (lend_rules T s n r) c N (same T) h ∙ step T)

-- question 1 refuses
module _ (s n r : List ℕ) (N : ℕ) (e : N ≡ lent_number s n r 0) (h : N ≡ 0 → ⊥) where
  pub remove_refused : (id : ℕ) → Changes s n r n r (remove id) (refused_by N)
  remove_refused id = refused_by_lem (remove id) s n r N (λ T. e ∙ lent_remove T s n r id) _ refl h

  pub fired_refused : (id : ℕ) → Changes s n r n r (reading (fired id)) (refused_by N)
  fired_refused id = refused_by_lem (reading (fired id)) s n r N (λ T. e ∙ lent_fired T s n r id) _ refl h

-- ---- `install`

module _ (s n r card : List ℕ) (N : ℕ) (e : N ≡ card_number s n r card) where
  pub install_refused : (v : Value) → v ≡ refused_by N → (N ≡ 0 → ⊥) → Changes s n r n r (install card) v
  install_refused v q h = refused_by_lem (install card) s n r N (λ T. e ∙ number_install T s n r card) v q h

  pub install_done : N ≡ 0 → (k ever : ℕ) (n' r' : List ℕ) → k ≡ cell n rules_at → ever ≡ cell n installed_at → r' ≡ install_table r k ever card →
      n' ≡ set (set n rules_at (k + 1)) installed_at (ever + 1)
      → (w : Value) → w ≡ answered_by ever → Changes s n r n' r' (install card) w
  install_done h k ever n' r' k-is ever-is p q w w-is =
      changed_by (install card) s n r N (λ T. e ∙ number_install T s n r card) h 1 ever n' r' (λ T. ap (number 1) (sym ever-is)) (λ T. rw (p, q, add-one k, add-one ever, k-is, ever-is)) w w-is

-- the rule that the questions let through is installed
pub installs : {T : Type 0} (x : Result T InstallError) → (s n r card : List ℕ) → number_in x ≡ install_number (cell n rules_at) (cell n installed_at) card → card_number s n r card ≡ 0 → IsOk x
unfolding card_number exact_number install_number
installs x s n r card e h = go x (e ∙ sym (yes _ _ _ _ z.0 (yes _ _ _ _ (under (exact card) _ 12 z.1).0 refl)))
  where
    z : (ltb (cell n rules_at) rule_slots && ltb (cell n installed_at) most_rules ≡ true) × (exact_number card ≡ 0)
    z = under (ltb (cell n rules_at) rule_slots && ltb (cell n installed_at) most_rules) (exact_number card) 11 (sym (in_order n card) ∙ (under (rules_lent s n r) _ 0 h).1)

    go : {T : Type 0} (y : Result T InstallError) → number_in y ≡ 0 → IsOk y
    go (Ok v) q = refl
    go (Err Full) q = absurd (omega (arith, q))
    go (Err Card) q = absurd (omega (arith, q))

-- ---- `remove` and `fired`

-- C's reply of a fired count is the answer
counted : (o : Option ℕ) → fired_of o ≡ number (found_reply (Ok o)).found (found_reply (Ok o)).value
counted None = refl
counted (Some k) = refl

whole : (o : Option ℕ) → found_reply (Ok o) ≡ record { number = 0; found = (found_reply (Ok o)).found; value = (found_reply (Ok o)).value }
whole None = refl
whole (Some k) = refl

module _ (s n r : List ℕ) (h : 0 ≡ lent_number s n r 0) (k : ℕ) (k-is : k ≡ cell n rules_at) where
  pub remove_done : (id : ℕ) (g : Removed) (n' r' : List ℕ) → g ≡ removed_of id (rules_of r k) → r' ≡ remove_table r k id → n' ≡ set n rules_at g.left
      → Changes s n r n' r' (remove id) (found_reply (Ok g.fired))
  remove_done id g n' r' e p q =
      changed_by (remove id) s n r 0 (λ T. h ∙ lent_remove T s n r id) refl (found_reply (Ok g.fired)).found (found_reply (Ok g.fired)).value n' r'
      (λ T. ap (λ (o : Option ℕ). fired_of o) (sym (ap (λ (x : Removed). x.fired) e ∙ ap (λ (j : ℕ). reading_of id (rules_of r j)) k-is)) ∙ counted g.fired) (λ T. rw (p, q, e, k-is)) _ (whole g.fired)

  pub fired_done : (id : ℕ) (g : Option ℕ) → g ≡ reading_of id (rules_of r k) → Changes s n r n r (reading (fired id)) (found_reply (Ok g))
  fired_done id g e =
      changed_by (reading (fired id)) s n r 0 (λ T. h ∙ lent_fired T s n r id) refl (found_reply (Ok g)).found (found_reply (Ok g)).value n r
      (λ T. ap (λ (o : Option ℕ). fired_of o) (sym (e ∙ ap (λ (j : ℕ). reading_of id (rules_of r j)) k-is)) ∙ counted g) (λ T. refl) _ (whole g)

-- ---- `decide`

-- what a decision writes
decided : (T : Tables) (s n r n' r' : List ℕ) (d : Decision) (b : Bool) → d.drops ≡ b → n' ≡ set n fault_words_at d.words → r' ≡ cond b (fire_table r d.place) r
    → ruled_t (lend_rules T s n r) d ≡ lend_rules T s n' r'
decided T s n r n' r' d true e p q = rw (e, p, q)
decided T s n r n' r' d false e p q = rw (e, p, q)

module _ (s n r : List ℕ) (m : MessageContext) (N : ℕ) (e : N ≡ decide_number s n r m) where
  pub decide_refused : (v : Value) → v ≡ refused_by N → (N ≡ 0 → ⊥) → Changes s n r n r (decide m) v
  decide_refused v q h = refused_by_lem (decide m) s n r N (λ T. e ∙ number_decide T s n r m) v q h

  pub decide_done : N ≡ 0 → (v : Decision) (b : Bool) (n' r' : List ℕ) → v ≡ verdict_of s n r m → v.drops ≡ b → n' ≡ set n fault_words_at v.words
      → r' ≡ cond b (fire_table r v.place) r → (w : Value) → w ≡ answered_by (bit b) → Changes s n r n' r' (decide m) w
  unfolding draws_of
  decide_done h v b n' r' d t p q w w-is =
      changed_by (decide m) s n r N (λ T. e ∙ number_decide T s n r m) h 1 (bit b) n' r'
      (λ T. ap (λ (x : Decision). number 1 (bit x.drops)) (sym d) ∙ ap (λ (x : Bool). number 1 (bit x)) t)
      (λ T. ap (ruled_t (lend_rules T s n r)) (sym d) ∙ decided T s n r n' r' v b t p q) w w-is
