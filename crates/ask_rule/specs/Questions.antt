-- Document 01, fault engine (`install_spec`, `remove`, `decide`): questions 1, 4, 5, 7, 8, 12 and 13 as the code asks them;
-- document 02, M-110: question 18. Of the tables `setup`, `net` and `rules` are lent.
use Rattle.std.specs.Prelude.{Bool, true, cond, ◌&&◌, List, ℕ, max, eqb, leb, ltb}
use Rattle.fault_rule.specs.declared.MessageContext.{MessageContext}
use Rattle.fault_rule.specs.Rule.{forward, window_in}
use Rattle.fault_card.specs.Card.{exact, fields_of}
use Rattle.fault_rules.specs.Rules.{rule_slots, most_rules}
use Rattle.spec_network.specs.Opening.{latest_now, most_words}
use Rattle.spec_network.specs.Tables.{cell, sizes_at, rules_at, installed_at, fault_words_at}
use Rattle.ask_tables.specs.Held.{setup_held, net_held, rules_held}

-- 1
unfoldable pub rules_lent : (setup net rules : List ℕ) → Bool
rules_lent s n r = setup_held s && (net_held s n && (rules_held r && true))

abbrev pub lent_number : (setup net rules : List ℕ) → (rest : ℕ) → ℕ
lent_number s n r rest = cond (rules_lent s n r) rest 1

-- 12: is a rule place free, and were fewer than 4,294,967,295 rules ever installed? 13: is the card exact? 18: is the end of its window, where it has one, after the start?
unfoldable pub place_number : (net : List ℕ) → ℕ
place_number n = cond (ltb (cell n rules_at) rule_slots && ltb (cell n installed_at) most_rules) 0 12

unfoldable pub exact_number : (card : List ℕ) → ℕ
exact_number card = cond (exact card) (cond (forward (window_in (fields_of card))) 0 18) 13

-- the first of two numbers that refuses
unfoldable pub first_of : ℕ → ℕ → ℕ
first_of a b = cond (eqb a 0) b a

-- 1, 12, 13 and 18
unfoldable pub card_number : (setup net rules card : List ℕ) → ℕ
card_number s n r card = lent_number s n r (first_of (place_number n) (exact_number card))

-- 1, 4, 5, 7 and 8
unfoldable pub decide_number : (setup net rules : List ℕ) → MessageContext → ℕ
decide_number s n r m =
    lent_number s n r
    (cond (ltb (max m.from m.to) (sizes_at s).tills)
    (cond (ltb m.kind (sizes_at s).types && leb m.tier 3)
    (cond (leb m.now latest_now)
    (cond (ltb (cell n fault_words_at) most_words) 0 8) 7) 5) 4)
