-- From tables to lists: the rules that a table holds after each write, and its length.
use Rattle.std.proofs.Common.{
  ◌≡◌,
  ℕ,
  zero,
  suc,
  ◌+◌,
  ◌-◌,
  ◌*◌,
  ◌%◌,
  ◌^◌,
  ◌<◌,
  ◌≤◌,
  Bool,
  true,
  false,
  cond,
  ◌&&◌,
  ltb,
  List,
  [],
  ◌∷◌,
  ◌++◌,
  length,
  get_or,
  take,
  drop,
  set,
  sym,
  refl,
  ap,
  ◌∙◌,
  arith,
  lit<,
  length-drop,
  take-append-drop,
  length-take-le,
  get_or-set_other,
  get_or-set_same,
  ltb-false,
  ltb-true,
  eq-eqb,
}
use Rattle.fault_rule.proofs.Laws.{yes, no}
use Rattle.fault_card.specs.Card.{exact, fields_of}
use Rattle.table_rows.proofs.Rows.{rows_snoc, rows_close}
use Rattle.table_rows.proofs.Writes.{rows_set}
use Rattle.table_shift.specs.Shift.{put_words, closed}
use Rattle.fault_rules.specs.declared.FaultRule.{FaultRule}
use Rattle.fault_rules.specs.Rules.{
  rule_width,
  fired_word,
  rule_slots,
  most_rules,
  rule_at,
  words,
  put_at,
  first_rule,
  rules_of,
  new_rule,
  with_rule,
  without,
  fired_more,
  fire_at,
  install_number,
  install_table,
  index_of,
  remove_table,
  fire_table,
}
use Rattle.fault_rules.proofs.Laws.{alone, rules_from, length_rules, rule_drop, index_le, without_at, stays, fewer}

-- ---- an installed rule stands last
free : (n ever : ℕ) (bytes : List ℕ) (b : Bool) → ltb n rule_slots ≡ b → ◌≡◌ {A = ℕ} (cond (b && ltb ever most_rules) (cond (exact bytes) 0 13) 12) 0 → n < rule_slots
free n ever bytes true e h = ltb-true n rule_slots e
free n ever bytes false e h = absurd (omega arith)

-- a rule that is accepted has a place
pub install_room : (n ever : ℕ) (bytes : List ℕ) → install_number n ever bytes ≡ 0 → n < rule_slots
unfolding install_number
install_room n ever bytes h = free n ever bytes (ltb n rule_slots) refl h

pub rules_installed : (ws : List ℕ) (n ever : ℕ) (bytes : List ℕ) → rule_slots * rule_width ≤ length ws → install_number n ever bytes ≡ 0
    → rules_of (install_table ws n ever bytes) (n + 1) ≡ with_rule ever (fields_of bytes) (rules_of ws n)
unfolding install_table put_at put_words
rules_installed ws n ever bytes room z =
    let f = install_room n ever bytes z in
    ap (λ (l : List ℕ). rules_of l (n + 1)) (sym (yes _ _ _ _ (eq-eqb _ _ z) refl))
    ∙ rows_snoc rule_width first_rule alone ws (words (new_rule ever (fields_of bytes))) n refl (omega (arith, f))

-- ---- a removed rule is gone, the order of the others stays
removed : (ws : List ℕ) (n id : ℕ) (b : Bool) → n * rule_width ≤ length ws → ltb (index_of id (rules_of ws n)) n ≡ b → index_of id (rules_of ws n) ≤ n
    → rules_of (remove_table ws n id) (length (without id (rules_of ws n))) ≡ without id (rules_of ws n)
unfolding remove_table closed
removed ws n id true room h le =
    let p : ℕ = index_of id (rules_of ws n) in
    let long = length_rules ws n in
    let l = ltb-true (index_of id (rules_of ws n)) n h in
    let k = fewer id (rules_of ws n) (omega (arith, l, long)) in
    let left : length (without id (rules_of ws n)) ≡ n - 1 = omega (arith, k, long) in
    let e1 : (p + 1) * rule_width - rule_width ≡ p * rule_width = omega arith in
    let e2 : n * rule_width - (p + 1) * rule_width ≡ (n - (p + 1)) * rule_width = omega arith in
    ap (λ (x : List ℕ). rules_of x (length (without id (rules_of ws n)))) (sym (yes _ _ _ _ h refl))
    ∙ ap (rules_of (take ((p + 1) * rule_width - rule_width) ws ++ (take (n * rule_width - (p + 1) * rule_width) (drop ((p + 1) * rule_width) ws) ++ drop (n * rule_width - rule_width) ws))) left
    ∙ ap (λ (j : ℕ). rules_of (take j ws ++ (take (n * rule_width - (p + 1) * rule_width) (drop ((p + 1) * rule_width) ws) ++ drop (n * rule_width - rule_width) ws)) (n - 1)) e1
    ∙ ap (λ (j : ℕ). rules_of (take (p * rule_width) ws ++ (take j (drop ((p + 1) * rule_width) ws) ++ drop (n * rule_width - rule_width) ws)) (n - 1)) e2
    ∙ rows_close rule_width first_rule alone ws (drop (n * rule_width - rule_width) ws) n p l room
    ∙ without_at id (rules_of ws n)
removed ws n id false room h le =
    let long = length_rules ws n in
    let l = ltb-false (index_of id (rules_of ws n)) n h in
    let same = stays id (rules_of ws n) (omega (arith, l, long, le)) in
    ap (λ (x : List ℕ). rules_of x (length (without id (rules_of ws n)))) (sym (no _ _ _ _ h refl))
    ∙ ap (rules_of ws) (ap length same ∙ long) ∙ sym same

pub rules_removed : (ws : List ℕ) (n id : ℕ) → n * rule_width ≤ length ws → rules_of (remove_table ws n id) (length (without id (rules_of ws n))) ≡ without id (rules_of ws n)
rules_removed ws n id room =
    let k = index_le id (rules_of ws n) in
    removed ws n id (ltb (index_of id (rules_of ws n)) n) room refl (omega (arith, k, length_rules ws n))

-- ---- the rule that dropped a message has fired once more, all else stays
one_more : (l : List ℕ) (v : ℕ) → fired_word < length l → first_rule (set l fired_word v) ≡ record { id = (first_rule l).id; spec = (first_rule l).spec; fired = v }
one_more l v h =
    let o : (k : ℕ) → k < fired_word → get_or (set l fired_word v) k 0 ≡ get_or l k 0 = λ k q. get_or-set_other l fired_word k v 0 (λ e. omega arith) in
    rw (o 0 (lit< tt), o 1 (lit< tt), o 2 (lit< tt), o 3 (lit< tt), o 4 (lit< tt), o 5 (lit< tt), o 6 (lit< tt), o 7 (lit< tt), o 8 (lit< tt), get_or-set_same l fired_word v 0 h)

part_rule : (ws : List ℕ) (b : ℕ) → rule_width ≤ length (drop b ws) → first_rule (take rule_width (drop b ws)) ≡ rule_at ws b
part_rule ws b h =
    let q = length-take-le rule_width (drop b ws) h in
    sym (alone (take rule_width (drop b ws)) (drop rule_width (drop b ws)) (omega (arith, q))) ∙ ap first_rule (take-append-drop rule_width (drop b ws)) ∙ sym (rule_drop ws b)

-- a fire by place
fired_is : (k : ℕ) (rs rest : List FaultRule) (r : FaultRule) → drop k rs ≡ r ∷ rest → take k rs ++ (fired_more r ∷ drop (k + 1) rs) ≡ fire_at k rs
unfolding fire_at
fired_is zero [] rest r h = let z : ◌≡◌ {A = ℕ} 0 1 = cc in absurd (omega arith)
fired_is zero (x ∷ rs) rest r h = let e : r ≡ x = cc in ap (λ (y : FaultRule). fired_more y ∷ rs) e
fired_is (suc k) [] rest r h = let z : ◌≡◌ {A = ℕ} 0 1 = cc in absurd (omega arith)
fired_is (suc k) (x ∷ rs) rest r h =
    let n : suc k + 1 ≡ suc (k + 1) = omega arith in
    ap (λ (j : ℕ). x ∷ (take k rs ++ (fired_more r ∷ drop j (x ∷ rs)))) n ∙ ap (λ (l : List FaultRule). x ∷ l) (fired_is k rs rest r h)

pub rules_fired : (ws : List ℕ) (n p : ℕ) → p < n → n * rule_width ≤ length ws → rules_of (fire_table ws p) n ≡ fire_at p (rules_of ws n)
unfolding fire_table
rules_fired ws n p h room =
    let v : ℕ = (get_or ws (p * rule_width + fired_word) 0 + 1) % 2 ^ 64 in
    let l : List ℕ = take rule_width (drop (p * rule_width) ws) in
    let k : rule_width ≤ length (drop (p * rule_width) ws) = rw length-drop (omega arith) in
    let q : length l ≡ rule_width = length-take-le rule_width (drop (p * rule_width) ws) k in
    rows_set rule_width first_rule alone ws n p fired_word v (lit< tt) h room
    ∙ ap (λ (r : FaultRule). take p (rules_of ws n) ++ (r ∷ drop (p + 1) (rules_of ws n))) (one_more l v (omega (arith, q)) ∙
    ap (λ (r : FaultRule). record { id = r.id; spec = r.spec; fired = v }) (part_rule ws (p * rule_width) k))
    ∙ fired_is p (rules_of ws n) _ (rule_at ws (p * rule_width)) (rules_from ws n p h)

-- ---- each write leaves the table as long as it was
