-- The rule table against the list of rules that it holds: rows, the search for an id, and what each call leaves.
use Rattle.std.proofs.Common.{
  ◌≡◌,
  ℕ,
  suc,
  ◌+◌,
  ◌-◌,
  ◌*◌,
  ◌/◌,
  ◌%◌,
  ◌^◌,
  ◌<◌,
  ◌≤◌,
  ◌⊎◌,
  inl,
  inr,
  Bool,
  true,
  false,
  cond,
  ◌&&◌,
  eqb,
  ltb,
  List,
  [],
  ◌∷◌,
  ◌++◌,
  length,
  get_or,
  take,
  drop,
  set,
  sym,
  refl,
  ap,
  ◌∙◌,
  add-zero,
  zero-add,
  arith,
  lit<,
  get_or-drop,
  le-ltb,
  lt-ltb,
  eq-eqb,
  ne_eqb,
}
use lib.ListN.{get_or-append}
use lib.Seq.{set_out}
use Rattle.fault_rule.specs.declared.DropSpec.{DropSpec}
use Rattle.fault_rule.proofs.Laws.{yes, no}
use Rattle.std.specs.Prelude.{Option, Some, None}
use Rattle.fault_card.specs.Card.{card_of}
use Rattle.fault_card.proofs.Laws.{exact_card, inexact_card}
use Rattle.table_rows.proofs.Rows.{length_rows, drop_rows, rows_next, rows_end_lem, rows_first}
use Rattle.table_shift.specs.Shift.{closed, put_words}
use Rattle.fault_rules.specs.declared.FaultRule.{FaultRule}
use Rattle.fault_rules.specs.declared.Removed.{Removed}
use Rattle.fault_rules.specs.Rules.{
  rule_width,
  fired_word,
  rule_slots,
  most_rules,
  rule_at,
  words,
  put_at,
  first_rule,
  rules_of,
  new_rule,
  without,
  reading_of,
  removed_of,
  install_number,
  install_table,
  index_of,
  remove_table,
  fire_table,
}

-- ---- a row is its words
rule_of : (ℕ → ℕ) → FaultRule
rule_of f = record { id = f 0; spec = record { map = f 1; kind = f 2; from = f 3; to = f 4; tier = f 5; probability = f 6; start = f 7; end = f 8 }; fired = f fired_word }

ext : (f g : ℕ → ℕ) → ((k : ℕ) → k < rule_width → f k ≡ g k) → rule_of f ≡ rule_of g
unfolding rule_of
ext f g h =
    rw (h 0 (lit< tt), h 1 (lit< tt), h 2 (lit< tt), h 3 (lit< tt), h 4 (lit< tt), h 5 (lit< tt), h 6 (lit< tt), h 7 (lit< tt), h 8 (lit< tt), h 9 (lit< tt))

-- only the first words count
pub alone : (l m : List ℕ) → rule_width ≤ length l → first_rule (l ++ m) ≡ first_rule l
unfolding rule_of
alone l m h = ext (λ k. get_or (l ++ m) k 0) (λ k. get_or l k 0) (λ k q. get_or-append l m 0 k (omega arith))

pub rule_drop : (ws : List ℕ) (b : ℕ) → rule_at ws b ≡ first_rule (drop b ws)
unfolding rule_of
rule_drop ws b =
    ap (λ (k : ℕ). record { id = get_or ws k 0; spec = (rule_at ws b).spec; fired = get_or ws (b + fired_word) 0 }) (sym (add-zero b))
    ∙ sym (ext (λ k. get_or (drop b ws) k 0) (λ k. get_or ws (b + k) 0) (λ k q. get_or-drop b ws k 0))

-- the rules from place p on
pub rules_from : (ws : List ℕ) (n p : ℕ) → p < n → drop p (rules_of ws n) ≡ rule_at ws (p * rule_width) ∷ rules_of (drop ((p + 1) * rule_width) ws) (n - (p + 1))
rules_from ws n p h =
    drop_rows rule_width first_rule ws n p (omega arith) ∙ rows_next rule_width first_rule ws n p h
    ∙ ap (λ (r : FaultRule). r ∷ rules_of (drop ((p + 1) * rule_width) ws) (n - (p + 1))) (sym (rule_drop ws (p * rule_width)))

pub length_rules : (ws : List ℕ) (n : ℕ) → length (rules_of ws n) ≡ n
length_rules ws n = length_rows rule_width first_rule n ws

-- ---- the search for an id
index_step : (id : ℕ) (r : FaultRule) (rs : List FaultRule) (b : Bool) → eqb r.id id ≡ b → index_of id (r ∷ rs) ≡ cond b 0 (suc (index_of id rs))
unfolding index_of
index_step id r rs b h = ap (λ (t : Bool). cond t 0 (suc (index_of id rs))) h

module _ (id : ℕ) (ws : List ℕ) (n : ℕ) where
  pub index_first : index_of id (rules_of ws n) ≡ 0 + index_of id (rules_of (drop (0 * rule_width) ws) (n - 0))
  index_first = sym (zero-add _ ∙ ap (index_of id) (rows_first rule_width first_rule ws n))

  here : (i : ℕ) → get_or ws (i * rule_width) 0 ≡ (first_rule (drop (i * rule_width) ws)).id
  here i = ap (λ (r : FaultRule). r.id) (rule_drop ws (i * rule_width))

  pub index_more : (i : ℕ) → i < n → (get_or ws (i * rule_width) 0 ≡ id → ⊥)
      → i + index_of id (rules_of (drop (i * rule_width) ws) (n - i)) ≡ (i + 1) + index_of id (rules_of (drop ((i + 1) * rule_width) ws) (n - (i + 1)))
  index_more i h t =
      let q : index_of id (rules_of (drop (i * rule_width) ws) (n - i)) ≡ suc (index_of id (rules_of (drop ((i + 1) * rule_width) ws) (n - (i + 1))))
      = ap (index_of id) (rows_next rule_width first_rule ws n i h) ∙ index_step id _ _ false (ne_eqb _ _ (λ e. t (here i ∙ e))) in
      omega (arith, q)

  pub index_here : (i : ℕ) → i < n → get_or ws (i * rule_width) 0 ≡ id → index_of id (rules_of (drop (i * rule_width) ws) (n - i)) ≡ 0
  index_here i h t = ap (index_of id) (rows_next rule_width first_rule ws n i h) ∙ index_step id _ _ true (eq-eqb _ _ (sym (here i) ∙ t))

  pub index_end : (i : ℕ) → n ≤ i → index_of id (rules_of (drop (i * rule_width) ws) (n - i)) ≡ 0
  unfolding index_of
  index_end i h = ap (index_of id) (rows_end_lem rule_width first_rule ws n i h)

-- ---- the rule at the place that was found
module _ (id : ℕ) where
  reading_step : (b : Bool) (x r : FaultRule) (rs rest : List FaultRule)
      → (drop (index_of id rs) rs ≡ r ∷ rest → reading_of id rs ≡ Some r.fired)
      → drop (cond b 0 (suc (index_of id rs))) (x ∷ rs) ≡ r ∷ rest → cond b (Some x.fired) (reading_of id rs) ≡ Some r.fired
  reading_step true x r rs rest next h = let e : x ≡ r = cc in ap (λ (y : FaultRule). Some y.fired) e
  reading_step false x r rs rest next h = next h

  reading_at : (rs rest : List FaultRule) (r : FaultRule) → drop (index_of id rs) rs ≡ r ∷ rest → reading_of id rs ≡ Some r.fired
  unfolding index_of reading_of
  reading_at [] rest r h = let z : ◌≡◌ {A = ℕ} 0 1 = cc in absurd (omega arith)
  reading_at (x ∷ rs) rest r h = reading_step (eqb x.id id) x r rs rest (reading_at rs rest r) h

  none_step : (b : Bool) (x : FaultRule) (rs : List FaultRule) → (index_of id rs ≡ length rs → reading_of id rs ≡ None)
      → cond b 0 (suc (index_of id rs)) ≡ suc (length rs) → cond b (Some x.fired) (reading_of id rs) ≡ None
  none_step true x rs next h = absurd (omega arith)
  none_step false x rs next h = next (omega arith)

  reading_none : (rs : List FaultRule) → index_of id rs ≡ length rs → reading_of id rs ≡ None
  unfolding index_of reading_of
  reading_none [] h = refl
  reading_none (x ∷ rs) h = none_step (eqb x.id id) x rs (reading_none rs) h

  without_step : (b : Bool) (x : FaultRule) (rs : List FaultRule) → take (index_of id rs) rs ++ drop (index_of id rs + 1) rs ≡ without id rs
      → take (cond b 0 (suc (index_of id rs))) (x ∷ rs) ++ drop (cond b 0 (suc (index_of id rs)) + 1) (x ∷ rs) ≡ cond b rs (x ∷ without id rs)
  without_step true x rs h = refl
  without_step false x rs h =
      let n : suc (index_of id rs) + 1 ≡ suc (index_of id rs + 1) = omega arith in
      ap (λ (k : ℕ). take (suc (index_of id rs)) (x ∷ rs) ++ drop k (x ∷ rs)) n ∙ ap (λ (l : List FaultRule). x ∷ l) h

  index_step_le : (b : Bool) (rs : List FaultRule) → index_of id rs ≤ length rs → cond b 0 (suc (index_of id rs)) ≤ suc (length rs)
  index_step_le true rs h = omega arith
  index_step_le false rs h = omega arith

  pub index_le : (rs : List FaultRule) → index_of id rs ≤ length rs
  unfolding index_of
  index_le [] = omega arith
  index_le (x ∷ rs) = index_step_le (eqb x.id id) rs (index_le rs)

  -- removal by place is removal by id
  pub without_at : (rs : List FaultRule) → take (index_of id rs) rs ++ drop (index_of id rs + 1) rs ≡ without id rs
  unfolding index_of without
  without_at [] = refl
  without_at (x ∷ rs) = without_step (eqb x.id id) x rs (without_at rs)

  stays_step : (b : Bool) (x : FaultRule) (rs : List FaultRule) → (index_of id rs ≡ length rs → without id rs ≡ rs)
      → cond b 0 (suc (index_of id rs)) ≡ suc (length rs) → cond b rs (x ∷ without id rs) ≡ x ∷ rs
  stays_step true x rs next h = absurd (omega arith)
  stays_step false x rs next h = ap (λ (l : List FaultRule). x ∷ l) (next (omega arith))

  pub stays : (rs : List FaultRule) → index_of id rs ≡ length rs → without id rs ≡ rs
  unfolding index_of without
  stays [] h = refl
  stays (x ∷ rs) h = stays_step (eqb x.id id) x rs (stays rs) h

  fewer_step : (b : Bool) (x : FaultRule) (rs : List FaultRule) → (index_of id rs < length rs → length (without id rs) + 1 ≡ length rs)
      → cond b 0 (suc (index_of id rs)) < suc (length rs) → length (cond b rs (x ∷ without id rs)) + 1 ≡ suc (length rs)
  fewer_step true x rs next h = omega arith
  fewer_step false x rs next h = let q = next (omega arith) in omega (arith, q)

  pub fewer : (rs : List FaultRule) → index_of id rs < length rs → length (without id rs) + 1 ≡ length rs
  unfolding index_of without
  fewer [] h = absurd (omega arith)
  fewer (x ∷ rs) h = fewer_step (eqb x.id id) x rs (fewer rs) h

-- ---- the calls' ways, where the search found no place, or place p
module _ (id : ℕ) (ws : List ℕ) (n : ℕ) where
  module _ (none : index_of id (rules_of ws n) ≡ n) where
    nowhere : index_of id (rules_of ws n) ≡ length (rules_of ws n)
    nowhere = none ∙ sym (length_rules ws n)

    pub fired_none : ◌≡◌ {A = Option ℕ} None (reading_of id (rules_of ws n))
    fired_none = sym (reading_none id (rules_of ws n) nowhere)

    pub remove_none : ◌≡◌ {A = Removed} (record { fired = None; left = n }) (removed_of id (rules_of ws n))
    remove_none =
        let l : n ≡ length (without id (rules_of ws n)) = sym (ap length (stays id (rules_of ws n) nowhere) ∙ length_rules ws n) in
        ap (λ (x : Option ℕ). record { fired = x; left = n }) fired_none
        ∙ ap (λ (x : ℕ). record { fired = reading_of id (rules_of ws n); left = x }) l

    pub table_none : ws ≡ remove_table ws n id
    unfolding remove_table
    table_none = no _ _ _ _ (le-ltb (index_of id (rules_of ws n)) n (omega (arith, none))) refl

  module _ (p : ℕ) (at : p ≡ index_of id (rules_of ws n)) (there : p < n) where
    pub fired_there : ◌≡◌ {A = Option ℕ} (Some (get_or ws (p * rule_width + fired_word) 0)) (reading_of id (rules_of ws n))
    fired_there = sym (reading_at id (rules_of ws n) _ _ (ap (λ (k : ℕ). drop k (rules_of ws n)) (sym at) ∙ rules_from ws n p there))

    pub remove_there : ◌≡◌ {A = Removed} (record { fired = Some (get_or ws (p * rule_width + fired_word) 0); left = n - 1 }) (removed_of id (rules_of ws n))
    remove_there =
        let l : n - 1 ≡ length (without id (rules_of ws n)) = (let q = length_rules ws n in let k = fewer id (rules_of ws n) (omega (arith, at, q)) in omega (arith, q, k)) in
        ap (λ (x : Option ℕ). record { fired = x; left = n - 1 }) fired_there
        ∙ ap (λ (x : ℕ). record { fired = reading_of id (rules_of ws n); left = x }) l

    pub table_there : (after : List ℕ) → after ≡ closed ws ((p + 1) * rule_width) (n * rule_width) ((p + 1 - p) * rule_width) → after ≡ remove_table ws n id
    unfolding remove_table
    table_there after e =
        let one : p + 1 - p ≡ 1 = omega arith in
        yes _ _ _ _ (lt-ltb (index_of id (rules_of ws n)) n (omega (arith, at, there)))
        (e ∙ ap (λ (k : ℕ). closed ws ((p + 1) * rule_width) (n * rule_width) (k * rule_width)) one ∙ ap (λ (k : ℕ). closed ws ((k + 1) * rule_width) (n * rule_width) rule_width) at)

-- ---- the ways through `install`
module _ (ws : List ℕ) (n ever : ℕ) (bytes : List ℕ) where
  both : (a b : Bool) → a ≡ true → b ≡ true → a && b ≡ true
  both a b p q = rw (p, q)

  -- a refusal leaves the table as found
  pub install_refused : (install_number n ever bytes ≡ 0 → ⊥) → ws ≡ install_table ws n ever bytes
  unfolding install_table
  install_refused h = no _ _ _ _ (ne_eqb _ _ h) refl

  refusing : (k : ℕ) → suc k ≡ install_number n ever bytes → (suc k ≡ install_number n ever bytes) × (ws ≡ install_table ws n ever bytes)
  refusing k e = (e, install_refused (λ z. omega (arith, e, z)))

  pub install_full : rule_slots ≤ n → (12 ≡ install_number n ever bytes) × (ws ≡ install_table ws n ever bytes)
  unfolding install_number
  install_full h = refusing 11 (no _ _ _ _ (ap (λ (b : Bool). b && ltb ever most_rules) (le-ltb n rule_slots h)) refl)

  module _ (free : n < rule_slots) where
    pub install_spent : most_rules ≤ ever → (12 ≡ install_number n ever bytes) × (ws ≡ install_table ws n ever bytes)
    unfolding install_number
    install_spent h = refusing 11 (no _ _ _ _ (ap (λ (b : Bool). b && ltb ever most_rules) (lt-ltb n rule_slots free) ∙ le-ltb ever most_rules h) refl)

    module _ (few : ever < most_rules) (c : Option DropSpec) (is : c ≡ card_of bytes) where
      room : ltb n rule_slots && ltb ever most_rules ≡ true
      room = both _ _ (lt-ltb n rule_slots free) (lt-ltb ever most_rules few)

      pub install_inexact : c ≡ None → (13 ≡ install_number n ever bytes) × (ws ≡ install_table ws n ever bytes)
      unfolding install_number
      install_inexact h = refusing 12 (yes _ _ _ _ room (no _ _ _ _ (inexact_card bytes (sym is ∙ h)) refl))

      accepted : (s : DropSpec) → c ≡ Some s → 0 ≡ install_number n ever bytes
      unfolding install_number
      accepted s h = yes _ _ _ _ room (yes _ _ _ _ (exact_card bytes s (sym is ∙ h)).0 refl)

      pub install_done : (s : DropSpec) (after : List ℕ) → c ≡ Some s → after ≡ put_words ws (n * rule_width) (words (record { id = ever; spec = s; fired = 0 }))
          → (0 ≡ install_number n ever bytes) × (after ≡ install_table ws n ever bytes)
      unfolding install_table put_at
      install_done s after h e =
          (accepted s h, yes _ _ _ _ (eq-eqb _ _ (sym (accepted s h))) (e ∙ ap (λ (x : DropSpec). put_at ws (n * rule_width) (new_rule ever x)) (exact_card bytes s (sym is ∙ h)).1))

  pub install_none : (rule_slots ≤ n) ⊎ (n < rule_slots × most_rules ≤ ever) → (12 ≡ install_number n ever bytes) × (ws ≡ install_table ws n ever bytes)
  install_none (inl h) = install_full h
  install_none (inr h) = install_spent h.0 h.1

-- ---- the ways through `fire`
module _ (ws : List ℕ) (p : ℕ) where
  pub fire_there : (after : List ℕ) (v : ℕ) → after ≡ set ws (p * rule_width + fired_word) v → v ≡ (get_or ws (p * rule_width + fired_word) 0 + 1) % 2 ^ 64 → after ≡ fire_table ws p
  unfolding fire_table
  fire_there after v e h = e ∙ ap (set ws (p * rule_width + fired_word)) h

  pub fire_past : length ws / rule_width ≤ p → ws ≡ fire_table ws p
  unfolding fire_table
  fire_past h = sym (set_out ws (p * rule_width + fired_word) _ (omega arith))
