-- Document 01, 'The book', Accept: the recipients in host order: what is left to be done, what it needs, and what one turn does.
use Rattle.std.specs.Prelude.{ℕ, ◌+◌, ◌-◌, ◌*◌, ◌≤◌, ◌<◌, ◌≡◌, Bool, true, false, cond, List, length}
use Rattle.table_rows.specs.Rows.{keep}
use Rattle.table_rows.specs.Lists.{up_to}
use Rattle.table_marks.specs.Marks.{found, ids_of}
use Rattle.fault_rules.specs.Rules.{rule_slots}
use Rattle.table_waiting.specs.Waiting.{width}
use Rattle.spec_network.specs.Opening.{link, most_words, last_number}
use Rattle.spec_network.specs.Tables.{cell, Tables, live, sizes_at, ids_start, sequence_at, waiting_at, fault_words_at}
use Rattle.spec_network.specs.Real.{opening_at}
use Rattle.spec_network.specs.Accept.{fate_of, booked, tally, add}
use Rattle.spec_network.specs.Writes.{offered_t, accept_t}
use Rattle.spec_network.specs.Lending.{lend_serve}
use Rattle.call_offer.specs.declared.Outgoing.{Outgoing}
use Rattle.call_offer.specs.Needed.{State}
use Rattle.call_offer.specs.Offering.{as_message, selects_at}
use Rattle.call_schedule.specs.declared.Counts.{Counts}
use Rattle.call_schedule.specs.Writing.{counts_of}

-- the selected from `to` on
abbrev pub rest : (q : ℕ → Bool) (n to : ℕ) → List ℕ
rest q n to = keep q (up_to (n - to) (λ k. to + k))

abbrev pub remaining : (setup tills : List ℕ) → Outgoing → ℕ → List ℕ
remaining setup tills m to = rest (selects_at tills m.scope m.from) (sizes_at setup).tills to

-- the words that one decision takes of the fault stream, at most
abbrev pub decision_words : ℕ
decision_words = 2 * rule_slots

-- questions 8 to 11, of the recipients from `to` on
pub record AdmittedFrom (setup net tills words seen waiting rings rules : List ℕ) (m : Outgoing) (to : ℕ) : Type 0 where
  pub state : State setup net words seen rings rules
  pub waiting_size : length waiting ≡ (sizes_at setup).wait_slots * width
  pub decisions : cell net fault_words_at + decision_words * length (remaining setup tills m to) < 2 * most_words
  pub fresh : (t : ℕ) → to ≤ t → t < (sizes_at setup).tills → selects_at tills m.scope m.from t ≡ true → cell words (link m.from t) < most_words
  pub numbers : cell net sequence_at + 3 * length (remaining setup tills m to) ≤ last_number
  pub free : (t : ℕ) → to ≤ t → t < (sizes_at setup).tills → selects_at tills m.scope m.from t ≡ true
      → found m.id (ids_of seen (ids_start (sizes_at setup) t) (cell seen t)) ≡ false → cell seen t < (sizes_at setup).seen_slots
  pub slots : cell net waiting_at + 3 * length (remaining setup tills m to) ≤ (sizes_at setup).wait_slots

-- one turn: a till that is selected is offered the message, and counted under its class. So it is whatever the tables hold that are not lent
unfoldable pub Turned : (setup tills keys prices blocks : List ℕ) (net words seen waiting rings rules net' words' seen' waiting' rings' rules' : List ℕ) → Outgoing → ℕ → (c r : Counts) → Type 0
Turned setup tills keys prices blocks net words seen waiting rings rules net' words' seen' waiting' rings' rules' m to c r =
    (L : Tables) → let T = lend_serve L setup net tills words keys prices seen waiting rings rules blocks in
    let q = selects_at tills m.scope m.from to in
    (lend_serve L setup net' tills words' keys prices seen' waiting' rings' rules' blocks ≡ cond q (offered_t (opening_at T) (as_message m) T to) T)
    × (counts_of r ≡ cond q (add (fate_of (opening_at T) (as_message m) (live (sizes_at setup) T) to) (counts_of c)) (counts_of c))

-- all of them
unfoldable pub Served : (setup tills keys prices blocks : List ℕ) (net words seen waiting rings rules net' words' seen' waiting' rings' rules' : List ℕ) → Outgoing → (r : Counts) → Type 0
Served setup tills keys prices blocks net words seen waiting rings rules net' words' seen' waiting' rings' rules' m r =
    (L : Tables) → let T = lend_serve L setup net tills words keys prices seen waiting rings rules blocks in
    let ts = remaining setup tills m 0 in
    (lend_serve L setup net' tills words' keys prices seen' waiting' rings' rules' blocks ≡ accept_t (opening_at T) (as_message m) T ts)
    × (counts_of r ≡ tally (booked (opening_at T) (as_message m) (live (sizes_at setup) T) ts))
