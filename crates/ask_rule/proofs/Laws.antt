-- The ladders of `install` and `decide`, and what passed questions say.
use mathlib.Core.Path.{◌≡◌, refl, sym, ap, ◌∙◌}
use mathlib.Core.Bool.{Bool, true, false, cond, ◌&&◌}
use mathlib.Core.List.{List}
use Prim.Native.Nat.{ℕ, max, ◌*◌, ◌≤◌, ◌<◌}
use lib.Dec.{eqb, leb, ltb}
use lib.ListN.{length}
use borrow.Author.Tests.{lt-ltb, le-ltb, le-leb, lt-leb, ltb-true, eq-eqb, ne_eqb}
use Rattle.fault_rule.specs.declared.MessageContext.{MessageContext}
use Rattle.fault_rule.specs.declared.DropSpec.{DropSpec}
use Rattle.fault_rule.specs.Rule.{forward, window_in}
use Rattle.fault_card.specs.Card.{exact, fields_of, card_of}
use Rattle.std.specs.Prelude.{Option, Some, None}
use Rattle.fault_card.proofs.Laws.{exact_card, inexact_card}
use Rattle.fault_rules.specs.Rules.{rule_width, rule_slots, most_rules}
use Rattle.spec_network.specs.Opening.{latest_now, most_words}
use Rattle.spec_network.specs.Tables.{cell, sizes_at, setup_width, net_width, rules_at, installed_at, fault_words_at}
use Rattle.ask_tables.proofs.Ladder.{yes, no, under, on, off, both, only}
use Rattle.ask_tables.proofs.Passed.{PassedSetup, PassedNet, setup_says_lem, net_says_lem}
use Rattle.ask_tables.proofs.PassedRows.{rules_say}
use native.Mathlib.Omega.{arith}
use Rattle.ask_rule.specs.Questions.{rules_lent, lent_number, place_number, exact_number, first_of, card_number, decide_number}

-- ---- What passed questions say

-- question 1
pub record Passed (s n r : List ℕ) : Type 0 where
  pub setup : length s ≡ setup_width
  pub net : length n ≡ net_width
  pub count : cell n rules_at ≤ rule_slots
  pub rules : length r ≡ rule_slots * rule_width

-- and question 8
pub record Decidable (s n r : List ℕ) : Type 0 where
  pub lent : Passed s n r
  pub words : cell n fault_words_at < most_words

pub passed : (s n r : List ℕ) → rules_lent s n r ≡ true → Passed s n r
unfolding rules_lent
passed s n r h =
    let q1 = both _ _ h in
    let q2 = both _ _ q1.1 in
    let x : PassedSetup s = setup_says_lem s q1.0 in
    let y : PassedNet s n = net_says_lem s n q2.0 in
    record { setup = x.size; net = y.size; count = y.rules; rules = rules_say r (only _ q2.1) }

pub decidable : (s n r : List ℕ) (m : MessageContext) → decide_number s n r m ≡ 0 → Decidable s n r
unfolding decide_number
decidable s n r m h =
    let q1 = under (rules_lent s n r) _ 0 h in
    let q4 = under (ltb (max m.from m.to) (sizes_at s).tills) _ 3 q1.1 in
    let q5 = under (ltb m.kind (sizes_at s).types && leb m.tier 3) _ 4 q4.1 in
    let q7 = under (leb m.now latest_now) _ 6 q5.1 in
    let q8 = under (ltb (cell n fault_words_at) most_words) 0 7 q7.1 in
    record { lent = passed s n r q1.0; words = ltb-true _ _ q8.0 }

-- ---- The ladder of `install`

module _ (n : List ℕ) where
  pub full : rule_slots ≤ cell n rules_at → 12 ≡ place_number n
  unfolding place_number
  full h = no _ _ _ _ (sym (off _ _ (le-ltb _ _ h))) refl

  module _ (room : cell n rules_at < rule_slots) where
    pub spent : most_rules ≤ cell n installed_at → 12 ≡ place_number n
    unfolding place_number
    spent h = no _ _ _ _ (sym (on _ _ _ (lt-ltb _ _ room) (sym (le-ltb _ _ h)))) refl

    pub free : cell n installed_at < most_rules → 0 ≡ place_number n
    unfolding place_number
    free h = yes _ _ _ _ (sym (on _ _ _ (lt-ltb _ _ room) (sym (lt-ltb _ _ h)))) refl

pub inexact : (card : List ℕ) (c : Option DropSpec) → c ≡ card_of card → c ≡ None → 13 ≡ exact_number card
unfolding exact_number
inexact card c e h = no _ _ _ _ (inexact_card card (sym e ∙ h)) refl

-- an exact card: what 18 answers of the fields that were read
module _ (card : List ℕ) (c : Option DropSpec) (d : DropSpec) (e : c ≡ card_of card) (h : c ≡ Some d) (b : Bool) (f : b ≡ forward (window_in d)) where
  read : (exact card ≡ true) × (d ≡ fields_of card)
  read = exact_card card d (sym e ∙ h)

  window_is : forward (window_in (fields_of card)) ≡ b
  window_is = ap (λ (x : DropSpec). forward (window_in x)) (sym read.1) ∙ sym f

  pub is_turned : b ≡ false → 18 ≡ exact_number card
  unfolding exact_number
  is_turned k = yes _ _ _ _ read.0 (no _ _ _ _ (window_is ∙ k) refl)

  pub is_exact : b ≡ true → 0 ≡ exact_number card
  unfolding exact_number
  is_exact k = yes _ _ _ _ read.0 (yes _ _ _ _ (window_is ∙ k) refl)

-- what question 1 refuses, and what is asked after it
module _ (s n r : List ℕ) (rest : ℕ) where
  pub lent_refuses : (k : ℕ) → k ≡ lent_number s n r 0 → (k ≡ 0 → ⊥) → k ≡ lent_number s n r rest
  lent_refuses k e h = go (rules_lent s n r) e
    where
      go : (b : Bool) → k ≡ cond b 0 1 → k ≡ cond b rest 1
      go true e = absurd (h e)
      go false e = e

  pub lent_passes : 0 ≡ lent_number s n r 0 → (k : ℕ) → k ≡ rest → k ≡ lent_number s n r rest
  lent_passes e k h = go (rules_lent s n r) e
    where
      go : (b : Bool) → ◌≡◌ {A = ℕ} 0 (cond b 0 1) → k ≡ cond b rest 1
      go true e = h
      go false e = absurd (omega arith)

pub is_lent : (s n r : List ℕ) → 0 ≡ lent_number s n r 0 → rules_lent s n r ≡ true
is_lent s n r e = (under (rules_lent s n r) 0 0 (sym e)).0

-- the place is asked first, then the card
pub place_refuses : (a b k : ℕ) → k ≡ a → (k ≡ 0 → ⊥) → k ≡ first_of a b
unfolding first_of
place_refuses a b k e h = no _ _ _ _ (ne_eqb _ _ (λ z. h (e ∙ z))) e

pub place_passes : (a b k : ℕ) → 0 ≡ a → k ≡ b → k ≡ first_of a b
unfolding first_of
place_passes a b k e h = yes _ _ _ _ (eq-eqb _ _ (sym e)) h

-- 12 comes before the questions of the card
pub in_order : (n card : List ℕ) → first_of (place_number n) (exact_number card) ≡ cond (ltb (cell n rules_at) rule_slots && ltb (cell n installed_at) most_rules) (exact_number card) 12
unfolding first_of place_number
in_order n card = go (ltb (cell n rules_at) rule_slots && ltb (cell n installed_at) most_rules) (exact_number card)
  where
    go : (b : Bool) (x : ℕ) → cond (eqb (cond b 0 12) 0) x (cond b 0 12) ≡ cond b x 12
    go true x = refl
    go false x = refl

-- an installed rule has a place, and was not the last that may be
pub record Installable (s n r card : List ℕ) : Type 0 where
  pub lent : Passed s n r
  pub count : cell n rules_at < rule_slots
  pub ever : cell n installed_at < most_rules

pub installable : (s n r card : List ℕ) → card_number s n r card ≡ 0 → Installable s n r card
unfolding card_number
installable s n r card h =
    let q = under (rules_lent s n r) _ 0 h in
    let z = under (ltb (cell n rules_at) rule_slots && ltb (cell n installed_at) most_rules) (exact_number card) 11 (sym (in_order n card) ∙ q.1) in
    let x = both (ltb (cell n rules_at) rule_slots) (ltb (cell n installed_at) most_rules) z.0 in
    record { lent = passed s n r q.0; count = ltb-true _ _ x.0; ever = ltb-true _ _ x.1 }

-- ---- The ladder of `decide`

module _ (s n r : List ℕ) (m : MessageContext) where
  pub no1 : rules_lent s n r ≡ false → 1 ≡ decide_number s n r m
  unfolding decide_number
  no1 h = no _ _ _ _ h refl

  module _ (lent : rules_lent s n r ≡ true) where
    pub no4 : (sizes_at s).tills ≤ max m.from m.to → 4 ≡ decide_number s n r m
    unfolding decide_number
    no4 h = yes _ _ _ _ lent (no _ _ _ _ (le-ltb _ _ h) refl)

    module _ (near : max m.from m.to < (sizes_at s).tills) where
      pub no5 : (sizes_at s).types ≤ m.kind → 5 ≡ decide_number s n r m
      unfolding decide_number
      no5 h = yes _ _ _ _ lent (yes _ _ _ _ (lt-ltb _ _ near) (no _ _ _ _ (sym (off _ _ (le-ltb _ _ h))) refl))

      module _ (kind : m.kind < (sizes_at s).types) where
        pub no5_tier : 3 < m.tier → 5 ≡ decide_number s n r m
        unfolding decide_number
        no5_tier h = yes _ _ _ _ lent (yes _ _ _ _ (lt-ltb _ _ near) (no _ _ _ _ (sym (on _ _ _ (lt-ltb _ _ kind) (sym (lt-leb _ _ h)))) refl))

        module _ (tier : m.tier ≤ 3) where
          both5 : ltb m.kind (sizes_at s).types && leb m.tier 3 ≡ true
          both5 = sym (on _ _ _ (lt-ltb _ _ kind) (sym (le-leb _ _ tier)))

          pub no7 : latest_now < m.now → 7 ≡ decide_number s n r m
          unfolding decide_number
          no7 h = yes _ _ _ _ lent (yes _ _ _ _ (lt-ltb _ _ near) (yes _ _ _ _ both5 (no _ _ _ _ (lt-leb _ _ h) refl)))

          module _ (time : m.now ≤ latest_now) where
            pub no8 : most_words ≤ cell n fault_words_at → 8 ≡ decide_number s n r m
            unfolding decide_number
            no8 h = yes _ _ _ _ lent (yes _ _ _ _ (lt-ltb _ _ near) (yes _ _ _ _ both5 (yes _ _ _ _ (le-leb _ _ time) (no _ _ _ _ (le-ltb _ _ h) refl))))

            pub none : cell n fault_words_at < most_words → 0 ≡ decide_number s n r m
            unfolding decide_number
            none h = yes _ _ _ _ lent (yes _ _ _ _ (lt-ltb _ _ near) (yes _ _ _ _ both5 (yes _ _ _ _ (le-leb _ _ time) (yes _ _ _ _ (lt-ltb _ _ h) refl))))
