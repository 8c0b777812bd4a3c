-- Document 01's questions, in order, and document 02's: each call meets those that concern it. Question 1 is asked of the lent tables (`Lent`), 2 and 3 at the opening (`Open`).
use Rattle.std.specs.Prelude.{ℕ, ◌+◌, ◌*◌, max, Bool, true, false, cond, ◌&&◌, ◌||◌, List, [], ◌∷◌, eqb, leb, ltb, length, get_or}
use Rattle.table_rows.specs.Rows.{all_of}
use Rattle.fault_rule.specs.declared.TimeWindow.TheVariants.{During}
use Rattle.fault_rule.specs.Rule.{forward, window_in}
use Rattle.fault_card.specs.Card.{exact, fields_of}
use Rattle.fault_rules.specs.Rules.{rule_slots, most_rules}
use Rattle.fault_blocks.specs.Blocks.{block_slots}
use Rattle.spec_network.specs.Lists.{within}
use Rattle.spec_network.specs.Opening.{Opening, link, global, longest_wire, latest_now, most_words, last_number}
use Rattle.spec_network.specs.Layout.{Layout, slots_of}
use Rattle.spec_network.specs.Live.{LiveBy, marked, ids_at}
use Rattle.spec_network.specs.Accept.{Entry, message_of, chosen, entered}
use Rattle.spec_network.specs.Flush.{due}
use Rattle.spec_network.specs.Calls.{Call, Reading, is_blocked, transit, fired, is_down, next_time, tally_of, waiting_copies, marks_of, accept, flush, take_down, bring_up, handlers, block, block_during, unblock, install, remove, decide, drain, reading}

-- a question that a call meets, and its answer
pub record Asked : Type 0 where
  pub number : ℕ
  pub yes : Bool

-- the number of the first question whose answer is "no", and 0 where there is none
abbrev pub first_no : List Asked → ℕ
first_no [] = 0
first_no (q ∷ qs) = cond q.yes (first_no qs) q.number

-- the answer to the question of a number; one that is not met is "yes"
abbrev pub answer_to : List Asked → ℕ → Bool
answer_to [] n = true
answer_to (q ∷ qs) n = cond (eqb q.number n) q.yes (answer_to qs n)

abbrev pub ask : ℕ → Bool → Asked
ask n b = record { number = n; yes = b }

-- where a network's waiting slots come from: its own, or a pool, of which `free` are left to this chain: the pool less the other chains' waiting copies and unused shares (M-113)
pub data Room : Type 0 where
  alone : Room
  pooled : (free : ℕ) → Room

module _ (o : Opening) where
  -- 4: is every till named below the till count?
  abbrev pub ask4 : ℕ → Asked
  ask4 t = ask 4 (ltb t o.sizes.tills)

  -- 5: are type, class and shard in range?
  abbrev pub ask5 : Entry → Asked
  ask5 e = ask 5 (ltb e.kind o.sizes.types && ltb e.class o.sizes.classes && (eqb e.scope global || ltb e.scope o.sizes.shards))

  -- 6: is the wire length at most 65,536?
  abbrev pub ask6 : Entry → Asked
  ask6 e = ask 6 (leb (length e.wire) longest_wire)

  -- 7: is now at most 2^60?
  abbrev pub ask7 : ℕ → Asked
  ask7 now = ask 7 (leb now latest_now)

  -- a stream has given fewer than 2^40 words
  abbrev pub fresh : ℕ → Bool
  fresh words = ltb words most_words

  module _ {k : Layout} (s : LiveBy k) (e : Entry) where
    -- 8: have the fault stream, and each link from sender to a selected recipient, given fewer than 2^40 words?
    abbrev pub ask8 : Asked
    ask8 = ask 8 (fresh s.engine.words && all_of (λ t. fresh (get_or s.words (link e.from t) 0)) (chosen o s e))

    -- 9: does the sequence plus 3 × selected stay at or below 4,294,967,295?
    abbrev pub ask9 : Asked
    ask9 = ask 9 (leb (s.queue.sequence + 3 * length (chosen o s e)) last_number)

    -- 10: has each selected till without this id a free seen slot? Asked of what the entry meets
    abbrev pub ask10 : Asked
    ask10 = ask 10 (all_of (λ t. marked (entered o e s) t (message_of o e).id || ltb (slots_of k (ids_at (entered o e s) t)) o.sizes.seen_slots) (chosen o s e))

    -- 11: do waiting plus 3 × selected fit the slots? 23, in its place: do they fit the chain's limit, and what the pool has left to it?
    abbrev pub ask11 : Asked
    ask11 = ask 11 (leb (length s.queue.waiting + 3 * length (chosen o s e)) o.sizes.wait_slots)

    abbrev pub ask_room : Room → Asked
    ask_room alone = ask11
    ask_room (pooled free) = ask 23 (leb (length s.queue.waiting + 3 * length (chosen o s e)) o.sizes.wait_slots && leb (length s.queue.waiting + 3 * length (chosen o s e)) free)

  -- 12: is a block place free? is a rule place free, and were fewer than 4,294,967,295 rules ever installed?
  abbrev pub ask12block : {k : Layout} → LiveBy k → Asked
  ask12block s = ask 12 (ltb (length s.engine.blocks) block_slots)

  abbrev pub ask12rule : {k : Layout} → LiveBy k → Asked
  ask12rule s = ask 12 (ltb (length s.engine.rules) rule_slots && ltb s.engine.installed most_rules)

  -- 18, M-110: is the window's end after its start? Asked of a block's window, and of a card's; a card without bit 5 has a window that always holds
  abbrev pub ask18block : ℕ → ℕ → Asked
  ask18block start end = ask 18 (forward (During start end))

  abbrev pub ask18card : List ℕ → Asked
  ask18card card = ask 18 (forward (window_in (fields_of card)))

  -- an output that is shorter than the opening's size is answered 1
  abbrev pub asked_reading : Reading → List Asked
  asked_reading (is_blocked from to now) = ask4 (max from to) ∷ ask7 now ∷ []
  asked_reading (transit t) = ask4 t ∷ []
  asked_reading (fired id) = []
  asked_reading (is_down t) = ask4 t ∷ []
  asked_reading next_time = []
  asked_reading (tally_of class) = ask 5 (ltb class o.sizes.classes) ∷ []
  asked_reading (waiting_copies rows) = ask 1 (leb o.sizes.wait_slots rows) ∷ []
  asked_reading (marks_of t places) = ask 1 (leb o.sizes.seen_slots places) ∷ ask4 t ∷ []

  abbrev pub asked_in : {k : Layout} → Room → LiveBy k → Call → List Asked
  asked_in room s (accept e true) = ask4 e.from ∷ ask5 e ∷ ask6 e ∷ ask7 e.now ∷ ask8 s e ∷ ask9 s e ∷ ask10 s e ∷ ask_room s e room ∷ []
  -- a payload marked as not opening is answered after question 7
  asked_in room s (accept e false) = ask4 e.from ∷ ask5 e ∷ ask6 e ∷ ask7 e.now ∷ []
  asked_in room s (flush now rows) = ask7 now ∷ ask 14 (leb (length (due now s)) rows) ∷ []
  asked_in room s (take_down t) = ask4 t ∷ []
  asked_in room s (bring_up t shards) = ask4 t ∷ ask 5 (within shards o.sizes.shards) ∷ []
  asked_in room s (handlers t gossip host) = ask4 t ∷ ask 5 (within gossip o.sizes.types && within host o.sizes.types) ∷ []
  asked_in room s (block from to) = ask4 (max from to) ∷ ask12block s ∷ []
  asked_in room s (block_during from to start end) = ask4 (max from to) ∷ ask12block s ∷ ask18block start end ∷ []
  asked_in room s (unblock from to) = ask4 (max from to) ∷ []
  asked_in room s (install card) = ask12rule s ∷ ask 13 (exact card) ∷ ask18card card ∷ []
  asked_in room s (remove id) = []
  asked_in room s (decide x) = ask4 (max x.from x.to) ∷ ask 5 (ltb x.kind o.sizes.types && leb x.tier 3) ∷ ask7 x.now ∷ ask 8 (fresh s.engine.words) ∷ []
  asked_in room s (drain rows) = ask 1 (leb o.sizes.log_slots rows) ∷ []
  asked_in room s (reading r) = asked_reading r

  -- a network with waiting slots of its own
  abbrev pub asked : {k : Layout} → LiveBy k → Call → List Asked
  asked s c = asked_in alone s c
