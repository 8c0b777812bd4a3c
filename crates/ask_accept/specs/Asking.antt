-- Document 01, questions 1 and 4 to 11, for accept: as the code asks them, of the lent tables.
use Rattle.std.specs.Prelude.{ℕ, ◌+◌, ◌*◌, ◌≤◌, ◌<◌, ◌≡◌, Bool, true, cond, ◌&&◌, ◌||◌, List, eqb, leb, ltb, length}
use Rattle.table_rows.specs.Rows.{all_of}
use Rattle.table_marks.specs.Marks.{found, ids_of}
use Rattle.spec_network.specs.Opening.{link, global, longest_wire, latest_now, most_words, last_number, most_tills, most_slots}
use Rattle.spec_network.specs.Tables.{cell, sizes_at, setup_width, till_form, ids_start, sequence_at, waiting_at, fault_words_at}
use Rattle.ask_tables.specs.Held.{setup_held, net_held, names_held, tills_held, words_held, keys_held, prices_held, seen_held, waiting_held, rings_held, rules_held, blocks_held}
use Rattle.call_offer.specs.declared.Outgoing.{Outgoing}
use Rattle.call_recipients.specs.Turning.{remaining}

-- 1
unfoldable pub accept_lent : (setup net names tills words keys prices seen waiting rings rules blocks : List ℕ) → Bool
accept_lent setup net names tills words keys prices seen waiting rings rules blocks =
    setup_held setup && (net_held setup net && (names_held setup names && (tills_held setup tills && (words_held words && (keys_held setup keys && (prices_held setup prices
    && (seen_held setup seen && (waiting_held setup net waiting && (rings_held setup rings && (rules_held rules && (blocks_held setup net blocks && true)))))))))))

abbrev pub scope_exists : (setup : List ℕ) (scope : ℕ) → Bool
scope_exists setup scope = eqb scope global || ltb scope (sizes_at setup).shards

-- 4 to 7, then the rest
unfoldable pub argument_number : (setup : List ℕ) (from kind class scope wire now rest : ℕ) → ℕ
argument_number setup from kind class scope wire now rest =
    cond (ltb from (sizes_at setup).tills)
    (cond (ltb kind (sizes_at setup).types && ltb class (sizes_at setup).classes && scope_exists setup scope)
    (cond (leb wire longest_wire) (cond (leb now latest_now) rest 7) 6) 5) 4

-- what questions 8 to 11 need: those before, answered "yes"
pub record Asked (setup tills : List ℕ) (m : Outgoing) : Type 0 where
  pub setup_size : length setup ≡ setup_width
  pub few : (sizes_at setup).tills ≤ most_tills
  pub slots : (sizes_at setup).seen_slots ≤ most_slots
  pub tills_size : length tills ≡ (sizes_at setup).tills * till_form.width
  pub from : m.from < (sizes_at setup).tills
  pub scope : m.scope ≤ global

-- 8: a link of the sender; 10: a till without this id
abbrev pub fresh_at : (words : List ℕ) → Outgoing → ℕ → Bool
fresh_at words m t = ltb (cell words (link m.from t)) most_words

abbrev pub slot_at : (setup seen : List ℕ) (id t : ℕ) → Bool
slot_at setup seen id t = found id (ids_of seen (ids_start (sizes_at setup) t) (cell seen t)) || ltb (cell seen t) (sizes_at setup).seen_slots

abbrev pub free_at : (setup seen : List ℕ) → Outgoing → ℕ → Bool
free_at setup seen m t = slot_at setup seen m.id t

-- 8 to 11
unfoldable pub tail_number : (setup net tills words seen : List ℕ) → Outgoing → ℕ
tail_number setup net tills words seen m =
    let ts = remaining setup tills m 0 in
    cond (ltb (cell net fault_words_at) most_words && all_of (fresh_at words m) ts)
    (cond (leb (cell net sequence_at + 3 * length ts) last_number)
    (cond (all_of (free_at setup seen m) ts)
    (cond (leb (cell net waiting_at + 3 * length ts) (sizes_at setup).wait_slots) 0 11) 10) 9) 8
