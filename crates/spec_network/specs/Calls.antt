-- Document 01, 'The book', the calls of the list: what each does to the live part, and what it answers.
use Rattle.std.specs.Prelude.{ℕ, suc, Option, is_some, unwrap_or, Bool, true, false, not, List, [], ◌∷◌, ◌++◌, get_or, set}
use Rattle.fault_rule.specs.declared.DropSpec.{DropSpec}
use Rattle.fault_card.specs.Card.{fields_of}
use Rattle.fault_rules.specs.Rules.{with_rule, without, reading_of}
use Rattle.fault_blocks.specs.declared.BlockWindow.{BlockWindow}
use Rattle.fault_blocks.specs.Blocks.{blocked, always, during}
use Rattle.fault_blocks.specs.Blocks as blocks
use Rattle.table_waiting.specs.declared.Copy.{Copy}
use Rattle.table_log.specs.declared.Tally.{Tally}
use Rattle.table_log.specs.Log.{no_tally, Log, empty_log}
use Rattle.spec_network.specs.Lists.{bit, count}
use Rattle.spec_network.specs.Opening.{Opening}
use Rattle.spec_network.specs.Layout.{Layout, no_marks, ids_in}
use Rattle.spec_network.specs.Live.{Context, Till, down_till, up_till, LiveBy, Engine, with_blocks, with_rules, with_tills, with_seen, with_engine, with_log, till_at, ids_at, is_up, in_transit}
use Rattle.spec_network.specs.Accept.{Entry, message_of, chosen, entered, live_after, booked, Counts, no_counts, tally, ruled}
use Rattle.spec_network.specs.Flush.{Row, rows_of, drops_of, handled, served, flushed}

-- calls that only read; `rows` and `places` are what the lent output has room for
pub data Reading : Type 0 where
  is_blocked : (from to now : ℕ) → Reading
  transit : (t : ℕ) → Reading
  fired : (id : ℕ) → Reading
  is_down : (t : ℕ) → Reading
  next_time : Reading
  tally_of : (class : ℕ) → Reading
  waiting_copies : (rows : ℕ) → Reading
  marks_of : (t places : ℕ) → Reading

pub data Call : Type 0 where
  accept : Entry → (opens : Bool) → Call
  flush : (now rows : ℕ) → Call
  take_down : (t : ℕ) → Call
  bring_up : (t shards : ℕ) → Call
  handlers : (t gossip host : ℕ) → Call
  block : (from to : ℕ) → Call
  block_during : (from to start end : ℕ) → Call
  unblock : (from to : ℕ) → Call
  install : (card : List ℕ) → Call
  remove : (id : ℕ) → Call
  decide : Context → Call
  drain : (rows : ℕ) → Call
  reading : Reading → Call

-- ---- Calls by what they do to copies, marks and log: an entry that opened, a flush, a take-down, a drain; every other call is quiet

pub data Kind : Type 0 where
  accepting : Entry → Kind
  flushing : (now rows : ℕ) → Kind
  taking_down : (t : ℕ) → Kind
  draining quiet : Kind

abbrev pub kind_of : Call → Kind
kind_of (accept e true) = accepting e
kind_of (accept e false) = quiet
kind_of (flush now rows) = flushing now rows
kind_of (take_down t) = taking_down t
kind_of (bring_up t shards) = quiet
kind_of (handlers t gossip host) = quiet
kind_of (block from to) = quiet
kind_of (block_during from to start end) = quiet
kind_of (unblock from to) = quiet
kind_of (install card) = quiet
kind_of (remove id) = quiet
kind_of (decide x) = quiet
kind_of (drain rows) = draining
kind_of (reading r) = quiet

-- ---- Tills

-- the till is down; its marks, handlers and shards go, its waiting copies stay
abbrev pub taken_down : {k : Layout} → ℕ → LiveBy k → LiveBy k
taken_down {k} t s = with_seen (with_tills s (set s.tills t down_till)) (set s.seen t (no_marks k))

abbrev pub brought_up : {k : Layout} → ℕ → ℕ → LiveBy k → LiveBy k
brought_up t shards s = with_tills s (set s.tills t (up_till shards))

abbrev pub with_handlers : Till → ℕ → ℕ → Till
with_handlers x gossip host = record { up = x.up; gossip = gossip; host = host; shards = x.shards }

abbrev pub handling : {k : Layout} → ℕ → ℕ → ℕ → LiveBy k → LiveBy k
handling t gossip host s = with_tills s (set s.tills t (with_handlers (till_at s t) gossip host))

-- ---- Blocks

abbrev pub block_added : {k : Layout} → BlockWindow → LiveBy k → LiveBy k
block_added b s = with_engine s (with_blocks s.engine ((s.engine).blocks ++ (b ∷ [])))

-- every window of the pair goes
abbrev pub unblocked : {k : Layout} → ℕ → ℕ → LiveBy k → LiveBy k
unblocked from to s = with_engine s (with_blocks s.engine (blocks.unblocked from to (s.engine).blocks))

-- ---- Rules

-- a new rule stands last; ids count from 0
abbrev pub rule_added : Engine → DropSpec → Engine
rule_added e d = with_rules e (with_rule e.installed d e.rules) (suc e.installed) e.words

-- the rule with this id goes, if there is one; the others keep their order
abbrev pub rule_removed : Engine → ℕ → Engine
rule_removed e i = with_rules e (without i e.rules) e.installed e.words

-- ---- The live part after a call that no number refused

module _ (o : Opening) where
  abbrev pub live_step : {k : Layout} → LiveBy k → Call → LiveBy k
  live_step s (accept e true) = live_after o (message_of o e) (entered o e s) (chosen o s e)
  live_step s (accept e false) = s
  live_step s (flush now rows) = flushed o now rows s
  live_step s (take_down t) = taken_down t s
  live_step s (bring_up t shards) = brought_up t shards s
  live_step s (handlers t gossip host) = handling t gossip host s
  live_step s (block from to) = block_added (always from to) s
  live_step s (block_during from to start end) = block_added (during from to start end) s
  live_step s (unblock from to) = unblocked from to s
  live_step s (install card) = with_engine s (rule_added s.engine (fields_of card))
  live_step s (remove id) = with_engine s (rule_removed s.engine id)
  live_step s (decide x) = with_engine s (ruled s.engine (o.draws.decide x s.engine.rules s.engine.words))
  live_step s (drain rows) = with_log s (empty_log)
  live_step s (reading r) = s

-- ---- Answers: what a call answers beside a refusal's number

pub data Answer : Type 0 where
  silent : Answer
  counted : Counts → Answer
  moved : (rows : List Row) → (delivered drops : ℕ) → Answer
  -- a number, and whether there is one (1 or 0)
  number : (found value : ℕ) → Answer
  tallied : Tally → Answer
  drained : Log → Answer
  copies : List Copy → Answer
  ids : List ℕ → Answer

-- the fired count of a rule, and whether it is there
abbrev pub fired_of : Option ℕ → Answer
fired_of r = number (bit (is_some r)) (unwrap_or r 0)

abbrev pub first_time : List Copy → Answer
first_time [] = number 0 0
first_time (c ∷ cs) = number 1 c.delivery.time

abbrev pub read : {k : Layout} → LiveBy k → Reading → Answer
read s (is_blocked from to now) = number 1 (bit (blocked from to now s.engine.blocks))
read s (transit t) = number 1 (in_transit s t)
read s (fired id) = fired_of (reading_of id s.engine.rules)
read s (is_down t) = number 1 (bit (not (is_up s t)))
read s next_time = first_time s.queue.waiting
read s (tally_of class) = tallied (get_or s.log.tallies class no_tally)
read s (waiting_copies rows) = copies s.queue.waiting
read {k} s (marks_of t places) = ids (ids_in k (ids_at s t))

abbrev pub moved_by : List Row → ℕ → Answer
moved_by rows n = moved rows (count handled rows) n

module _ (o : Opening) where
  abbrev pub answer_of : {k : Layout} → LiveBy k → Call → Answer
  answer_of s (accept e true) = counted (tally (booked o (message_of o e) (entered o e s) (chosen o s e)))
  answer_of s (accept e false) = counted no_counts
  answer_of s (flush now rows) = moved_by (rows_of s (served now rows s)) (drops_of s (served now rows s))
  answer_of s (take_down t) = silent
  answer_of s (bring_up t shards) = silent
  answer_of s (handlers t gossip host) = silent
  answer_of s (block from to) = silent
  answer_of s (block_during from to start end) = silent
  answer_of s (unblock from to) = silent
  answer_of s (install card) = number 1 s.engine.installed
  answer_of s (remove id) = read s (fired id)
  answer_of s (decide x) = number 1 (bit (o.draws.decide x s.engine.rules s.engine.words).drops)
  answer_of s (drain rows) = drained s.log
  answer_of s (reading r) = read s r

-- ---- Every answer shown the same way; where it has no such part, that part is empty

pub record Shown : Type 0 where
  pub counts : Counts
  pub rows : List Row
  pub delivered : ℕ
  pub drops : ℕ
  pub found : ℕ
  pub value : ℕ
  pub tally : Tally
  pub log : Log
  pub copies : List Copy
  pub ids : List ℕ

abbrev pub shown : Answer → Shown
shown silent = record { counts = no_counts; rows = []; delivered = 0; drops = 0; found = 0; value = 0; tally = no_tally; log = empty_log; copies = []; ids = [] }
shown (counted n) = record { counts = n; rows = []; delivered = 0; drops = 0; found = 0; value = 0; tally = no_tally; log = empty_log; copies = []; ids = [] }
shown (moved rows delivered n) = record { counts = no_counts; rows = rows; delivered = delivered; drops = n; found = 0; value = 0; tally = no_tally; log = empty_log; copies = []; ids = [] }
shown (number found value) = record { counts = no_counts; rows = []; delivered = 0; drops = 0; found = found; value = value; tally = no_tally; log = empty_log; copies = []; ids = [] }
shown (tallied t) = record { counts = no_counts; rows = []; delivered = 0; drops = 0; found = 0; value = 0; tally = t; log = empty_log; copies = []; ids = [] }
shown (drained l) = record { counts = no_counts; rows = []; delivered = 0; drops = 0; found = 0; value = 0; tally = no_tally; log = l; copies = []; ids = [] }
shown (copies cs) = record { counts = no_counts; rows = []; delivered = 0; drops = 0; found = 0; value = 0; tally = no_tally; log = empty_log; copies = cs; ids = [] }
shown (ids is) = record { counts = no_counts; rows = []; delivered = 0; drops = 0; found = 0; value = 0; tally = no_tally; log = empty_log; copies = []; ids = is }

abbrev pub counts_in : Answer → Counts
counts_in a = (shown a).counts

abbrev pub rows_in : Answer → List Row
rows_in a = (shown a).rows

abbrev pub delivered_in : Answer → ℕ
delivered_in a = (shown a).delivered

abbrev pub drops_in : Answer → ℕ
drops_in a = (shown a).drops
