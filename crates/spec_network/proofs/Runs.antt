-- Computed runs, on the tables: document 01's tempting errors and edges, which the theorem alone would not see where book and tables err alike.
-- Draws here are toys, so that each run is short: a fraction is a percentage that follows from the word count. The crate `spec_runs` has runs with the real ones.
use mathlib.Core.Path.{◌≡◌, refl}
use Prim.Native.Nat.{ℕ, suc, ◌+◌, ◌*◌, ◌%◌}
use mathlib.Core.Bool.{Bool, true, false, cond, not}
use mathlib.Core.List.{List, [], ◌∷◌, ◌++◌, map}
use lib.Dec.{eqb, ltb}
use lib.ListN.{length, drop, replicate}
use Rattle.table_waiting.specs.declared.Copy.{Copy}
use Rattle.fault_rules.specs.declared.FaultRule.{FaultRule}
use Rattle.fault_rule.specs.declared.MessageContext.{MessageContext}
use Rattle.fault_rule.specs.Rule.{rule_of, applies}
use Rattle.fault_decide.specs.Decide.{Decision}
use Rattle.spec_network.specs.Opening.{Draw, Draws, Settings, Opening, global}
use Rattle.spec_network.specs.Accept.{Entry, Counts}
use Rattle.spec_network.specs.Flush.{Row}
use Rattle.table_log.specs.Log.{empty_log}
use Rattle.spec_network.specs.Questions.{asked, first_no}
use Rattle.spec_network.specs.Layout as layout
use Rattle.spec_network.specs.Live.{Carried, Live, Engine, with_blocks, with_engine, with_waiting, opening_live}
use Rattle.spec_network.specs.Calls.{Call, counted, number, tallied, is_blocked, transit, next_time, tally_of, counts_in, rows_in, delivered_in, drops_in, accept, flush, take_down, bring_up, handlers, block, block_during, unblock, install, remove, drain, reading}
use Rattle.spec_network.specs.Tables.{Tables, live, cell}
use Rattle.spec_network.specs.Writes.{Reply, output_with, tables_by, reply_by}
use Rattle.spec_network.specs.Open.{lengths_of, open_number, open_tables}
use Rattle.link_latency.specs.Admitted as admitted
use lib.Ieee as ieee
use Rattle.table_waiting.specs.Waiting as waiting
use Rattle.table_marks.specs.Marks as marks
use Rattle.table_ring.specs.Ring as ring
use Rattle.table_log.specs.Log as log
use Rattle.table_rows.specs.Table as table
use Rattle.table_rows.specs.Rows as rows
use Rattle.table_shift.specs.Shift as shift
use Rattle.fault_rules.specs.Rules as rules
use Rattle.fault_blocks.specs.Blocks as blocks
use Rattle.fault_rule.specs.Rule as rule
use Rattle.fault_card.specs.Card as card
use Rattle.hash_chunk.specs.Chunk as chunk
use Rattle.hash_digest.specs.Blake3 as digest
use Rattle.hash_compress.specs.Compress as compress
use Rattle.math_word.specs.Word as word
use Rattle.rand_streams.specs.Link as link
use Rattle.rand_draw.specs.Fraction as fraction
use Rattle.spec_network.specs.Real as real
use Rattle.spec_network.specs.Accept as accepting

abbrev chance : ℕ → ℕ → Draw Bool
chance rate words = cond (eqb rate 0) (record { value = false; words = words }) (record { value = ltb (words * 37 % 100) rate; words = 2 + words })

-- every rule that applies drops, and takes two words
abbrev toy_decide : MessageContext → List FaultRule → ℕ → Decision
toy_decide m [] w = record { drops = false; place = 0; words = w }
toy_decide m (r ∷ rs) w = record { drops = applies (rule_of r.spec) m; place = 0; words = 2 + w }

abbrev toy : ℕ → ℕ → ℕ → Draws
toy loss duplicate replay = record {
  loss = λ from to words. chance loss words;
  duplicate = λ from to words. chance duplicate words;
  replay = λ from to words. chance replay words;
  echoing = not (eqb (duplicate + replay) 0);
  latency = λ from to bytes words. record { value = 1000000 + bytes; words = 2 + words };
  index = λ from to n words. record { value = words % n; words = suc words };
  decide = toy_decide;
  id = λ kind scope wire. cell wire 0 + 1000 * scope + 100000 * kind;
}

-- two types, three classes, one shard
abbrev settings : ℕ → ℕ → Settings
settings waits log = record {
  sizes = record { tills = 3; types = 2; classes = 3; shards = 1; seen_slots = 2; wait_slots = waits; log_slots = log };
  config = record { latency = 150000000; jitter = 0; loss = 0; duplicate = 0; replay = 0; spike = 0 };
  plan = record { planned = 0; regions = 0; seed = 0 };
  seed = 5;
  fault_key = replicate 8 0;
}

-- names "a" and "b" in a table of zeros
abbrev pub names : List ℕ
names = 1 ∷ 97 ∷ (replicate 63 0 ++ (1 ∷ 98 ∷ replicate 1245 0))

-- tables with something in every cell
abbrev pub lent : Settings → Tables
lent x =
    let n = lengths_of x in
    record {
      setup = replicate n.setup 9;
      net = replicate n.net 9;
      names = names;
      tills = replicate n.tills 9;
      words = replicate n.words 9;
      keys = replicate n.keys 9;
      prices = replicate n.prices 9;
      seen = replicate n.seen 9;
      waiting = replicate n.waiting 9;
      rings = replicate n.rings 9;
      rules = replicate n.rules 9;
      blocks = replicate n.blocks 9;
      log = replicate n.log 9;
    }

-- tills 0 and 1 have the shard
abbrev pub masks : List ℕ
masks = 1 ∷ 1 ∷ 0 ∷ []

-- the opening with toy draws, and the tables after a list of calls
abbrev opening : Settings → ℕ → ℕ → ℕ → Opening
opening x loss duplicate replay = record { sizes = x.sizes; draws = toy loss duplicate replay }

abbrev after : Opening → Tables → List Call → Tables
after o T [] = T
after o T (c ∷ cs) = after o (tables_by o T c) cs

abbrev small : Settings
small = settings 12 1

abbrev plain : Opening
plain = opening small 0 0 0

abbrev tables : Opening → List Call → Tables
tables o cs = after o (open_tables small masks (lent small)) cs

abbrev reply : List Call → Call → Reply
reply cs c = reply_by plain (tables plain cs) c

abbrev held : Opening → List Call → Live
held o cs = live small.sizes (tables o cs)

abbrev pub five : ℕ → ℕ → ℕ → ℕ → ℕ → Counts
five sent deduplicated partition loss fault = record { sent = sent; deduplicated = deduplicated; partition = partition; loss = loss; fault = fault }

-- one byte on the wire, type 1, class 2
abbrev pub entry : ℕ → ℕ → ℕ → ℕ → Entry
entry from now scope byte = record { from = from; now = now; kind = 1; class = 2; scope = scope; wire = byte ∷ []; tag = 77 }

abbrev pub hello : Call
hello = accept (entry 0 1000 global 5) true

abbrev counts : Reply → Counts
counts r = counts_in r.answer

-- the tills of a reply's rows
abbrev rows_to : Reply → List ℕ
rows_to r = map (λ (x : Row). x.copy.delivery.to) (rows_in r.answer)

-- ---- Questions

-- a drop card with this map and a window alone, of ends below 256: half-open, and closed
abbrev card_by : ℕ → ℕ → ℕ → List ℕ
card_by map start end = map ∷ start ∷ 0 ∷ 0 ∷ 0 ∷ 0 ∷ 0 ∷ 0 ∷ 0 ∷ end ∷ 0 ∷ 0 ∷ 0 ∷ 0 ∷ 0 ∷ 0 ∷ 0 ∷ []

abbrev window_card : ℕ → ℕ → List ℕ
window_card start end = card_by 32 start end

abbrev closed_card : ℕ → ℕ → List ℕ
closed_card start end = card_by 96 start end

-- no block place is free
abbrev full : Engine → Engine
full e = with_blocks e (replicate blocks.block_slots (blocks.always 0 1))

pub record Numbers : Type 0 where
  pub opens : open_number small masks (lent small) ≡ 0
  pub key_short : open_number (record { sizes = small.sizes; config = small.config; plan = small.plan; seed = 5; fault_key = [] }) masks (lent small) ≡ 1
  pub never_opened : (reply_by plain (lent small) hello).number ≡ 1
  pub no_till : (reply [] (accept (entry 3 1000 global 5) true)).number ≡ 4
  pub no_shard : (reply [] (accept (entry 0 1000 1 5) true)).number ≡ 5
  pub too_late : (reply [] (accept (entry 0 1152921504606846977 global 5) true)).number ≡ 7
  pub no_mark_free : (reply (hello ∷ accept (entry 0 1000 global 6) true ∷ []) (accept (entry 0 1000 global 7) true)).number ≡ 10
  pub no_row : (reply (hello ∷ []) (flush 2000000 1)).number ≡ 14
  pub bad_card : (reply [] (install (64 ∷ []))).number ≡ 13
  -- a window the wrong way round: 18, after 12 and 13; a card without bit 5 has none
  pub no_end : (reply [] (block_during 0 1 5 5)).number ≡ 18
  pub turned : (reply [] (block_during 0 1 8 5)).number ≡ 18
  pub one_moment : (reply [] (block_during 0 1 5 6)).number ≡ 0
  pub turned_card : (reply [] (install (window_card 8 5))).number ≡ 18
  pub one_moment_card : (reply [] (install (window_card 5 6))).number ≡ 0
  pub turned_long : (reply [] (install (window_card 8 5 ++ (0 ∷ [])))).number ≡ 13
  pub turned_no_place : first_no (asked plain (with_engine (held plain []) (full (held plain []).engine)) (block_during 0 1 8 5)) ≡ 12
  pub no_window : (reply [] (install (1 ∷ 1 ∷ []))).number ≡ 0
  -- a closed window may have equal ends, and is refused only the wrong way round; bit 6 stands only beside bit 5, bit 7 never
  pub closed_moment : (reply [] (install (closed_card 5 5))).number ≡ 0
  pub closed_turned : (reply [] (install (closed_card 6 5))).number ≡ 18
  pub bit_7 : (reply [] (install (card_by 160 5 8))).number ≡ 13
  pub bits_6_7 : (reply [] (install (card_by 224 5 8))).number ≡ 13
  -- a payload that does not open is answered with zero counts
  pub not_opening : reply [] (accept (entry 0 1000 global 5) false) ≡ record { number = 0; answer = counted (five 0 0 0 0 0) }

-- ---- Accept

-- a drop card for type 1 to till 2 in the window 5..8; and for type 1 at any time
abbrev windowed : List ℕ
windowed = 37 ∷ 1 ∷ 2 ∷ 0 ∷ 0 ∷ 0 ∷ 5 ∷ 0 ∷ 0 ∷ 0 ∷ 0 ∷ 0 ∷ 0 ∷ 0 ∷ 8 ∷ 0 ∷ 0 ∷ 0 ∷ 0 ∷ 0 ∷ 0 ∷ 0 ∷ []

abbrev always : List ℕ
always = 1 ∷ 1 ∷ []

pub record Accepts : Type 0 where
  -- a sender that is down reaches nobody; the sender is no recipient; to shard 0 from till 0, till 1 alone is selected
  pub sender_down : counts (reply (take_down 0 ∷ []) hello) ≡ five 0 0 2 0 0
  pub to_shard : counts (reply [] (accept (entry 0 1000 0 5) true)) ≡ five 1 0 0 0 0
  -- stopped by a block at now: partition, and no word is drawn
  pub blocked_now : counts (reply (block_during 0 1 1000 1001 ∷ []) hello) ≡ five 1 0 1 0 0
  pub blocked_words : cell (tables plain (block 0 1 ∷ hello ∷ [])).words 1 ≡ 0
  -- no loss draw at rate 0: two words for the latency alone
  pub no_loss_draw : cell (tables plain (hello ∷ [])).words 1 ≡ 2
  -- the window of a rule holds its start and not its end; a drop is booked as fault
  pub in_window : counts (reply (install windowed ∷ []) (accept (entry 0 5 global 5) true)) ≡ five 1 0 0 0 1
  pub before_window : counts (reply (install windowed ∷ []) (accept (entry 0 4 global 5) true)) ≡ five 2 0 0 0 0
  pub after_window : counts (reply (install windowed ∷ []) (accept (entry 0 8 global 5) true)) ≡ five 2 0 0 0 0
  -- a closed window holds both its ends, and nothing beside them
  pub closed_before : counts (reply (install (closed_card 5 8) ∷ []) (accept (entry 0 4 global 5) true)) ≡ five 2 0 0 0 0
  pub closed_start : counts (reply (install (closed_card 5 8) ∷ []) (accept (entry 0 5 global 5) true)) ≡ five 0 0 0 0 2
  pub closed_end : counts (reply (install (closed_card 5 8) ∷ []) (accept (entry 0 8 global 5) true)) ≡ five 0 0 0 0 2
  pub closed_after : counts (reply (install (closed_card 5 8) ∷ []) (accept (entry 0 9 global 5) true)) ≡ five 2 0 0 0 0
  pub closed_one : counts (reply (install (closed_card 5 5) ∷ []) (accept (entry 0 5 global 5) true)) ≡ five 0 0 0 0 2
  -- a rule that drops sets no mark: once it is removed, the same entry is sent
  pub fault_unmarked : (held plain (install always ∷ hello ∷ [])).seen ≡ [] ∷ [] ∷ [] ∷ []
  pub fault_resent : counts (reply (install always ∷ hello ∷ remove 0 ∷ []) hello) ≡ five 2 0 0 0 0
  -- it fired twice, and is gone once removed
  pub fired : (reply (install always ∷ hello ∷ []) (remove 0)).answer ≡ number 1 2
  pub gone : (reply (install always ∷ remove 0 ∷ []) (remove 0)).answer ≡ number 0 0

-- a put-back that is lost and sent again: the loss draw hits at word count 0, and not at 2
abbrev lossy : Opening
lossy = opening small 50 0 0

pub record Losses : Type 0 where
  pub lost : counts (reply_by lossy (tables lossy []) hello) ≡ five 0 0 0 2 0
  pub lost_words : cell (tables lossy (hello ∷ [])).words 1 ≡ 2
  pub resent : counts (reply_by lossy (tables lossy (hello ∷ [])) hello) ≡ five 2 0 0 0 0
  pub resent_words : cell (tables lossy (hello ∷ hello ∷ [])).words 1 ≡ 6

-- ---- Echoes: with both rates at 100 the first recipient's ring is empty, so that it has a duplicate alone; the second's holds the first's message

abbrev echoing : Opening
echoing = opening small 0 100 100

abbrev kind_of : Copy → ℕ
kind_of c = 10 * c.delivery.to + c.original

pub record Echoes : Type 0 where
  pub kinds : map kind_of (held echoing (hello ∷ [])).queue.waiting ≡ 11 ∷ 10 ∷ 21 ∷ 20 ∷ 20 ∷ []
  pub sequences : map (λ (c : Copy). c.sequence) (held echoing (hello ∷ [])).queue.waiting ≡ 1 ∷ 2 ∷ 3 ∷ 4 ∷ 5 ∷ []
  pub ids : map (λ (c : Copy). c.id) (held echoing (hello ∷ [])).queue.waiting ≡ 116005 ∷ 0 ∷ 116005 ∷ 0 ∷ 0 ∷ []
  -- latency 2, duplicate 2, replay 2, the echo's latency 2; the second has a ring index and one more latency
  pub first_words : cell (tables echoing (hello ∷ [])).words 1 ≡ 8
  pub second_words : cell (tables echoing (hello ∷ [])).words 2 ≡ 11
  pub ring : map length (held echoing (hello ∷ [])).rings ≡ replicate 33 0 ++ (2 ∷ [])
  pub originals_in_transit : (reply_by echoing (tables echoing (hello ∷ [])) (reading (transit 2))).answer ≡ number 1 1
  -- the log of one place: five rows, four forced out, the tallies exact
  pub log_of_one : (reply_by echoing (tables echoing (hello ∷ flush 2000000 5 ∷ [])) (reading (tally_of 2))).answer ≡ tallied (record { deliveries = 5; bytes = 5 })
  pub forced_out : (held echoing (hello ∷ flush 2000000 5 ∷ [])).log.forced ≡ 4
  pub drained_short : (reply_by echoing (tables echoing []) (drain 0)).number ≡ 1
  pub drained_empty : (held echoing (hello ∷ flush 2000000 5 ∷ drain 1 ∷ [])).log ≡ empty_log

-- ---- Flush

-- the copies of hello are delivered at 1,001,001
abbrev flying : Call
flying = flush 2000000 2

pub record Flushes : Type 0 where
  -- the one lands at a gossip handler; the other is stopped by a block that held at its delivery time, and no more at the flush's now: its mark goes
  pub lands : rows_to (reply (handlers 1 2 0 ∷ hello ∷ block_during 0 2 1001001 1001002 ∷ []) flying) ≡ 1 ∷ []
  pub delivered : delivered_in (reply (handlers 1 2 0 ∷ hello ∷ block_during 0 2 1001001 1001002 ∷ []) flying).answer ≡ 1
  pub dropped : drops_in (reply (handlers 1 2 0 ∷ hello ∷ block_during 0 2 1001001 1001002 ∷ []) flying).answer ≡ 1
  pub mark_gone : (held plain (hello ∷ block_during 0 2 1001001 1001002 ∷ flying ∷ [])).seen ≡ [] ∷ (116005 ∷ []) ∷ [] ∷ []
  pub sent_again : counts (reply (hello ∷ block_during 0 2 1001001 1001002 ∷ flying ∷ []) hello) ≡ five 1 1 0 0 0
  -- a window that ends while the copy flies does not stop it
  pub window_ends : rows_to (reply (hello ∷ block_during 0 2 2000 900000 ∷ []) flying) ≡ 1 ∷ 2 ∷ []
  -- taken down in flight: the copy is dropped; brought up again before the flush it lands, and nobody handles it
  pub down_in_flight : rows_to (reply (hello ∷ take_down 1 ∷ []) flying) ≡ 2 ∷ []
  pub up_again : rows_to (reply (handlers 1 2 0 ∷ hello ∷ take_down 1 ∷ bring_up 1 1 ∷ []) flying) ≡ 1 ∷ 2 ∷ []
  pub unhandled : delivered_in (reply (handlers 1 2 0 ∷ hello ∷ take_down 1 ∷ bring_up 1 1 ∷ []) flying).answer ≡ 0
  pub sender_gone : rows_to (reply (hello ∷ take_down 0 ∷ []) flying) ≡ []
  -- two originals of one id wait at one till: accept, down, up, accept; the flush drop of the first clears the mark that the second set
  pub two_wait : map kind_of (held plain (hello ∷ take_down 1 ∷ bring_up 1 1 ∷ hello ∷ [])).queue.waiting ≡ 11 ∷ 21 ∷ 11 ∷ []
  pub second_unmarked : (held plain (hello ∷ take_down 1 ∷ bring_up 1 1 ∷ accept (entry 0 5000 global 5) true ∷ block_during 0 1 1001001 1001002 ∷ flush 1002000 3 ∷ [])).seen ≡ [] ∷ [] ∷ (116005 ∷ []) ∷ []
  -- a host handler takes a global entry, and none for a shard
  pub host_shard : delivered_in (reply (handlers 1 0 2 ∷ accept (entry 0 1000 0 5) true ∷ []) flying).answer ≡ 0
  pub host_global : delivered_in (reply (handlers 1 0 2 ∷ hello ∷ []) flying).answer ≡ 1
  -- what is not due waits
  pub not_due : rows_to (reply (hello ∷ []) (flush 1001000 2)) ≡ []
  pub next : (reply (hello ∷ []) (reading next_time)).answer ≡ number 1 1001001
  -- `unblock` removes every window of the pair
  pub unblock_all : (reply (block_during 0 1 5 8 ∷ block 0 1 ∷ unblock 0 1 ∷ []) (reading (is_blocked 0 1 6))).answer ≡ number 1 0
  pub blocked_inside : (reply (block_during 0 1 5 8 ∷ []) (reading (is_blocked 0 1 7))).answer ≡ number 1 1
  pub end_open : (reply (block_during 0 1 5 8 ∷ []) (reading (is_blocked 0 1 8))).answer ≡ number 1 0

-- ---- 4,096 slots, 4,090 waiting: two selected fit; three give 11

abbrev big : ℕ → Opening
big tills = record { sizes = record { tills = tills; types = 2; classes = 3; shards = 0; seen_slots = 2; wait_slots = 4096; log_slots = 0 }; draws = toy 0 0 0 }

abbrev crowded : ℕ → Live
crowded tills = with_waiting (opening_live layout.table (big tills).sizes (replicate tills 0)) 4090
    (replicate 4090 (record { delivery = record { from = 0; to = 1; kind = 0; class = 0; sent = 0; time = 0; scope = global; wire = 0 }; sequence = 0; original = 1; id = 0; tag = 0 }))

pub record Crowd : Type 0 where
  pub two_fit : first_no (asked (big 3) (crowded 3) hello) ≡ 0
  pub three_do_not : first_no (asked (big 4) (crowded 4) hello) ≡ 11

-- ---- A rate of 0, of either sign, takes no draw; above 0 it takes two words

pub record Rates : Type 0 where
  pub at_zero : (key : List ℕ) (words : ℕ) → real.chance key 0 words ≡ record { value = false; words = words + 0 }
  pub at_minus_zero : (key : List ℕ) (words : ℕ) → real.chance key 0x8000000000000000 words ≡ record { value = false; words = words + 0 }
  pub above_zero : (key : List ℕ) (words : ℕ) → (real.chance key 0x3fe0000000000000 words).words ≡ words + 2

-- ---- A flush's output: a row of 14 words for each copy that lands, its till second, its handlers last

abbrev written : List ℕ
written = output_with (reply (handlers 2 2 0 ∷ hello ∷ []) flying).answer (replicate 30 9)

pub record Outputs : Type 0 where
  pub tills : (cell written 1 ≡ 1) × (cell written 15 ≡ 2)
  pub handlers : (cell written 12 ≡ 0) × (cell written 26 ≡ 1)
  -- what lies behind the rows stays
  pub behind : drop 28 written ≡ 9 ∷ 9 ∷ []

-- ---- The book's marks, waiting copies and rings are plain

abbrev at : ℕ → ℕ → Copy
at time sequence = record { delivery = record { from = 0; to = 1; kind = 0; class = 0; sent = 0; time = time; scope = global; wire = 0 }; sequence = sequence; original = 1; id = 0; tag = 0 }

abbrev carried : ℕ → Carried
carried tag = record { class = 0; wire = 0; tag = tag }

-- the ring of type 1 and shard 0 anew, among rings that have one message each
abbrev anew : layout.Rings layout.plain
anew = layout.with_ring layout.plain (λ kind scope. carried 5 ∷ []) 1 0 (carried 7 ∷ [])

pub record Plain : Type 0 where
  -- by time, and behind those of one time by sequence
  pub in_time : layout.with_copy layout.plain (at 5 4) (at 4 1 ∷ at 5 3 ∷ at 6 2 ∷ []) ≡ at 4 1 ∷ at 5 3 ∷ at 5 4 ∷ at 6 2 ∷ []
  pub in_sequence : layout.with_copy layout.plain (at 5 2) (at 5 1 ∷ at 5 3 ∷ []) ≡ at 5 1 ∷ at 5 2 ∷ at 5 3 ∷ []
  pub own_ring : layout.ring_of layout.plain anew 1 0 ≡ carried 7 ∷ []
  pub other_scope : layout.ring_of layout.plain anew 1 global ≡ carried 5 ∷ []
  pub other_type : layout.ring_of layout.plain anew 0 0 ≡ carried 5 ∷ []

pub record Marks : Type 0 where
  pub more : layout.with_mark layout.plain 5 (3 ∷ 7 ∷ []) ≡ 3 ∷ 5 ∷ 7 ∷ []
  pub less : layout.without_mark layout.plain 5 (3 ∷ 5 ∷ 7 ∷ []) ≡ 3 ∷ 7 ∷ []
  pub there : layout.stands layout.plain 5 (3 ∷ 5 ∷ 7 ∷ []) ≡ true
  pub gone : layout.stands layout.plain 5 (3 ∷ 7 ∷ []) ≡ false

pub record Runs : Type 0 where
  pub rates : Rates
  pub numbers : Numbers
  pub accepts : Accepts
  pub losses : Losses
  pub echoes : Echoes
  pub flushes : Flushes
  pub crowd : Crowd
  pub outputs : Outputs
  pub plainly : Plain
  pub marks : Marks

pub runs : Runs
unfolding real.chance fraction.hits_at fraction.hit_words ieee.lt admitted.latency_admitted admitted.fraction_admitted admitted.rate_admitted ieee.eq ieee.le ieee.of_bits waiting.before marks.halve marks.position ring.slot_of ring.push_slot ring.pushed_at log.tally_at log.tallied_at log.noted_at log.pushed log.cleared_at table.over rows.kept shift.put_words shift.closed rules.without rules.reading_of rules.fire_at rules.install_number rules.install_table rules.index_of rules.remove_table rules.fire_table rules.put_at blocks.window_of blocks.joins blocks.stops blocks.blocked blocks.block_table blocks.open_count blocks.unblock_table blocks.put_at rule.has rule.filter_of rule.window_of rule.action_of rule.rule_of rule.holds rule.forward rule.passes rule.applies card.le_at card.size_of card.places_of card.field_of card.spec_of card.map_exact card.exact word.le8 word.le4 real.keys_of link.link_key link.link_bytes real.priced_by digest.hash digest.tree chunk.chunk chunk.blocks chunk.parent compress.compressed compress.folded accepting.drawn accepting.offered
runs = record {
  rates = record { at_zero = λ key words. refl; at_minus_zero = λ key words. refl; above_zero = λ key words. refl };
  numbers = record { opens = refl; key_short = refl; never_opened = refl; no_till = refl; no_shard = refl; too_late = refl; no_mark_free = refl; no_row = refl; bad_card = refl; no_end = refl; turned = refl; one_moment = refl; turned_card = refl; one_moment_card = refl; turned_long = refl; turned_no_place = refl; no_window = refl; closed_moment = refl; closed_turned = refl; bit_7 = refl; bits_6_7 = refl; not_opening = refl };
  accepts = record { sender_down = refl; to_shard = refl; blocked_now = refl; blocked_words = refl; no_loss_draw = refl; in_window = refl; before_window = refl; after_window = refl; closed_before = refl; closed_start = refl; closed_end = refl; closed_after = refl; closed_one = refl; fault_unmarked = refl; fault_resent = refl; fired = refl; gone = refl };
  losses = record { lost = refl; lost_words = refl; resent = refl; resent_words = refl };
  echoes = record { kinds = refl; sequences = refl; ids = refl; first_words = refl; second_words = refl; ring = refl; originals_in_transit = refl; log_of_one = refl; forced_out = refl; drained_short = refl; drained_empty = refl };
  flushes = record { lands = refl; delivered = refl; dropped = refl; mark_gone = refl; sent_again = refl; window_ends = refl; down_in_flight = refl; up_again = refl; unhandled = refl; sender_gone = refl; two_wait = refl; second_unmarked = refl; host_shard = refl; host_global = refl; not_due = refl; next = refl; unblock_all = refl; blocked_inside = refl; end_open = refl };
  crowd = record { two_fit = refl; three_do_not = refl };
  outputs = record { tills = (refl, refl); handlers = (refl, refl); behind = refl };
  plainly = record { in_time = refl; in_sequence = refl; own_ring = refl; other_scope = refl; other_type = refl };
  marks = record { more = refl; less = refl; there = refl; gone = refl };
}
