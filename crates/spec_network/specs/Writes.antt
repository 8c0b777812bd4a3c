-- Document 01, 'The book', on the lent tables: what a call writes, table by table; decisions are taken from what the tables hold. THE CONTRACTS of the public calls are `call_tables`, `call_reply` and `call_output`.
use Rattle.std.specs.Prelude.{ℕ, zero, suc, ◌+◌, ◌*◌, Bool, true, false, cond, ◌&&◌, List, [], ◌∷◌, ◌++◌, length, set, drop}
use Rattle.table_shift.specs.Shift.{put_words}
use Rattle.table_rows.specs.Rows.{flat}
use Rattle.table_rows.specs.Table.{over}
use Rattle.table_delivery.specs.Delivery as delivery
use Rattle.table_delivery.specs.declared.Delivery.{Delivery}
use Rattle.table_waiting.specs.Waiting as waiting
use Rattle.table_waiting.specs.Waiting.{insert_copy}
use Rattle.table_waiting.specs.declared.Copy.{Copy}
use Rattle.fault_rules.specs.Rules.{without, install_table, remove_table, fire_table}
use Rattle.fault_decide.specs.Decide.{Decision}
use Rattle.table_marks.specs.Marks.{placed, removed}
use Rattle.table_rings.specs.Rings as rings
use Rattle.table_log.specs.Log as log
use Rattle.fault_blocks.specs.declared.BlockWindow.{BlockWindow}
use Rattle.fault_blocks.specs.Blocks.{always, during, block_table, unblock_table, open_count}
use Rattle.spec_network.specs.Opening.{Sizes, Opening, link}
use Rattle.spec_network.specs.Live.{Till, down_till, up_till, Live, is_original, ids_at, till_at, rings_of}
use Rattle.spec_network.specs.Accept.{Entry, Message, message_of, chosen, Drawn, drawn, Fate, deduplicated, partition, loss, fault, sent, fate_of, copies, carried_of}
use Rattle.spec_network.specs.Flush.{Row, served, later, stops, lands}
use Rattle.spec_network.specs.Calls as calls
use Rattle.spec_network.specs.Calls.{Call, Answer, silent, answer_of, accept, flush, take_down, bring_up, handlers, block, block_during, unblock, install, remove, decide, drain, reading, with_handlers}
use Rattle.spec_network.specs.Questions.{Room, alone, asked_in, first_no}
use Rattle.spec_network.specs.Tables.{cell, Tables, waiting_rows, live, till_form, ids_start, sequence_at, waiting_at, rules_at, installed_at, fault_words_at, blocks_at}
pub use Rattle.spec_network.specs.Lending.{set_net, set_tills, set_words, set_seen, set_waiting, set_rings, set_rules, set_blocks, set_log}
use Rattle.spec_network.specs.Real.{opening_at}
use Rattle.spec_network.specs.Lent.{question1}

-- ---- The writes: each one leaf function's contract

-- a cell of `net` anew
abbrev pub net_t : Tables → ℕ → ℕ → Tables
net_t T i n = set_net T (set T.net i n)

abbrev pub till_t : Tables → ℕ → Till → Tables
till_t T t x = set_tills T (put_words T.tills (t * till_form.width) (till_form.words x))

abbrev pub words_t : Tables → ℕ → ℕ → Tables
words_t T i n = set_words T (set T.words i n)

-- the marks of a till anew, at the front of its places, and their number
abbrev pub marks_t : Sizes → Tables → ℕ → List ℕ → Tables
marks_t z T t ids = set_seen T (set (put_words T.seen (ids_start z t) ids) t (length ids))

-- the waiting copies anew, and their number
abbrev pub waiting_t : Tables → List Copy → Tables
waiting_t T w = set_waiting (net_t T waiting_at (length w)) (over waiting.form w T.waiting)

-- a copy more in the queue, with the next sequence
abbrev pub queue_push : Sizes → Tables → Copy → Tables
queue_push z T c = waiting_t (net_t T sequence_at (suc (cell T.net sequence_at))) (insert_copy c (waiting_rows T))

-- the queue without the copies taken from its front; those left wait on
abbrev pub queue_take : Sizes → Tables → (taken left : List Copy) → Tables
queue_take z T taken left = waiting_t T left

-- a window more, behind the others
abbrev pub block_t : Tables → BlockWindow → Tables
block_t T e = let n = cell T.net blocks_at in set_blocks (net_t T blocks_at (suc n)) (block_table T.blocks n e)

-- every window of the pair goes
abbrev pub unblock_t : Tables → ℕ → ℕ → Tables
unblock_t T from to = let n = cell T.net blocks_at in set_blocks (net_t T blocks_at (open_count from to T.blocks n)) (unblock_table from to T.blocks n)

-- a rule more, with the next id
abbrev pub install_t : Tables → List ℕ → Tables
install_t T card =
    let n = cell T.net rules_at in
    let ever = cell T.net installed_at in
    set_rules (net_t (net_t T rules_at (suc n)) installed_at (suc ever)) (install_table T.rules n ever card)

abbrev pub remove_t : Sizes → Tables → ℕ → Tables
remove_t z T id = set_rules (net_t T rules_at (length (without id (live z T).engine.rules))) (remove_table T.rules (cell T.net rules_at) id)

-- what a verdict changes: the fault stream's word count, and the fired count of the rule that drops
abbrev pub ruled_t : Tables → Decision → Tables
ruled_t T v = let T₁ = net_t T fault_words_at v.words in cond v.drops (set_rules T₁ (fire_table T.rules v.place)) T₁

-- a delivery into the log
abbrev pub record_t : Sizes → Tables → Delivery → Tables
record_t z T d = set_log T (log.pushed z.log_slots T.log d)

abbrev pub record_all_t : Sizes → Tables → List Copy → Tables
record_all_t z T [] = T
record_all_t z T (c ∷ cs) = record_all_t z (record_t z T c.delivery) cs

abbrev pub drain_t : Tables → Tables
drain_t T = set_log T (log.cleared_at T.log)

-- ---- Accept

-- each copy at its place, with the next sequence
abbrev pub push_t : Sizes → Tables → List Copy → Tables
push_t z T [] = T
push_t z T (c ∷ cs) = push_t z (queue_push z T c) cs

module _ (o : Opening) (m : Message) where
  abbrev pub remember_t : Tables → Tables
  remember_t T = cond o.draws.echoing (set_rings T (rings.pushed (rings_of o.sizes) T.rings (rings.number_of m.kind m.scope) (carried_of m))) T

  abbrev pub effect_t : Fate → Tables → Drawn → ℕ → Tables
  effect_t deduplicated T d t = T
  effect_t partition T d t = T
  effect_t loss T d t = words_t T (link m.from t) d.loss.words
  effect_t fault T d t = ruled_t (words_t T (link m.from t) d.latency.words) d.verdict
  effect_t sent T d t =
      let s = live o.sizes T in
      let T₁ = ruled_t (words_t T (link m.from t) d.echoes.words) d.verdict in
      let T₂ = marks_t o.sizes T₁ t (placed m.id (ids_at s t)) in
      remember_t (push_t o.sizes T₂ (copies o m s d t))

  abbrev pub offered_t : Tables → ℕ → Tables
  offered_t T t = effect_t (fate_of o m (live o.sizes T) t) T (drawn o m t (live o.sizes T)) t

  -- the selected in host order, each on what the one before left
  abbrev pub accept_t : Tables → List ℕ → Tables
  accept_t T [] = T
  accept_t T (t ∷ ts) = accept_t (offered_t T t) ts

-- what an entry meets: `entered` on the tables
abbrev pub entered_t : Opening → Entry → Tables → Tables
entered_t o e T = T

-- ---- Flush

-- what a flush drop clears; s is what the tables held before
abbrev pub clear_t : Sizes → Live → List Copy → Tables → Tables
clear_t z s [] T = T
clear_t z s (c ∷ cs) T =
    let t = c.delivery.to in
    clear_t z s cs (cond (stops s c && is_original c) (marks_t z T t (removed c.id (ids_at (live z T) t))) T)

abbrev pub flush_t : Sizes → Tables → (now rows : ℕ) → Tables
flush_t z T now rows =
    let s = live z T in
    let T₁ = clear_t z s (served now rows s) T in
    let T₂ = queue_take z T₁ (served now rows s) (later now rows s) in
    record_all_t z T₂ (lands s (served now rows s))

-- ---- Every call

module _ (o : Opening) where
  abbrev pub step_t : Tables → Call → Tables
  step_t T (accept e true) = accept_t o (message_of o e) (entered_t o e T) (chosen o (live o.sizes T) e)
  step_t T (accept e false) = T
  step_t T (flush now rows) = flush_t o.sizes T now rows
  step_t T (take_down t) = marks_t o.sizes (till_t T t down_till) t []
  step_t T (bring_up t shards) = till_t T t (up_till shards)
  step_t T (handlers t gossip host) = till_t T t (with_handlers (till_at (live o.sizes T) t) gossip host)
  step_t T (block from to) = block_t T (always from to)
  step_t T (block_during from to start end) = block_t T (during from to start end)
  step_t T (unblock from to) = unblock_t T from to
  step_t T (install card) = install_t T card
  step_t T (remove id) = remove_t o.sizes T id
  step_t T (decide x) = ruled_t T (o.draws.decide x (live o.sizes T).engine.rules (live o.sizes T).engine.words)
  step_t T (drain rows) = drain_t T
  step_t T (reading r) = T

-- ---- Replies

pub record Reply : Type 0 where
  pub number : ℕ
  pub answer : Answer

abbrev pub is_number : ℕ → Bool
is_number zero = false
is_number (suc n) = true

module _ (o : Opening) where
  -- question 1 of the lent tables, then the others of what they hold
  abbrev pub number_in : Room → Tables → Call → ℕ
  number_in room T c = cond (question1 o.sizes T c) (first_no (asked_in o room (live o.sizes T) c)) 1

  abbrev pub number_of : Tables → Call → ℕ
  number_of T c = number_in alone T c

  -- a "no" returns the number with all counts 0 and leaves everything as found
  abbrev pub exit_t : Bool → Tables → Call → Tables
  exit_t true T c = T
  exit_t false T c = step_t o T c

  abbrev pub answer_t : Bool → Tables → Call → Answer
  answer_t true T c = silent
  answer_t false T c = answer_of o (live o.sizes T) c

  abbrev pub tables_in : Room → Tables → Call → Tables
  tables_in room T c = exit_t (is_number (number_in room T c)) T c

  abbrev pub reply_in : Room → Tables → Call → Reply
  reply_in room T c = record { number = number_in room T c; answer = answer_t (is_number (number_in room T c)) T c }

  abbrev pub tables_by : Tables → Call → Tables
  tables_by T c = tables_in alone T c

  abbrev pub reply_by : Tables → Call → Reply
  reply_by T c = reply_in alone T c

-- a row of a flush's output: the copy, then whether a gossip and a host handler take it
abbrev pub row_words : Row → List ℕ
row_words r = waiting.words r.copy ++ (r.gossip ∷ r.host ∷ [])

abbrev pub row_width : ℕ
row_width = waiting.width + 2

-- what an answer puts at the front of the lent output
abbrev pub output_of : Answer → List ℕ
output_of (calls.moved rows delivered n) = flat row_words rows
output_of (calls.drained l) = flat delivery.words l.records
output_of (calls.copies cs) = flat waiting.words cs
output_of (calls.ids is) = is
output_of silent = []
output_of (calls.counted n) = []
output_of (calls.number found value) = []
output_of (calls.tallied t) = []

-- ---- THE CONTRACTS: the tables at exit, the reply and the output are these, of the tables and the output at entry and the arguments

abbrev pub call_tables : Tables → Call → Tables
call_tables T c = tables_by (opening_at T) T c

abbrev pub call_reply : Tables → Call → Reply
call_reply T c = reply_by (opening_at T) T c

-- an answer's words at the front of an output; what lies behind them stays
abbrev pub output_with : Answer → List ℕ → List ℕ
output_with a out = let new = output_of a in new ++ drop (length new) out

abbrev pub call_output : Tables → Call → List ℕ → List ℕ
call_output T c out = output_with (call_reply T c).answer out

-- ---- The same for a chain of a pool: `room` says how many of its slots are left to the chain (M-113)

abbrev pub room_tables : Room → Tables → Call → Tables
room_tables room T c = tables_in (opening_at T) room T c

abbrev pub room_reply : Room → Tables → Call → Reply
room_reply room T c = reply_in (opening_at T) room T c

abbrev pub room_output : Room → Tables → Call → List ℕ → List ℕ
room_output room T c out = output_with (room_reply room T c).answer out
