-- Document 01, 'The book', Flush, with questions 1, 7 and 14: THE CONTRACT of flush. Of the tables `setup`, `net`, `tills`, `seen`, `waiting`, `blocks` and `log` are
-- lent; the others hold whatever they hold, and stay.
use Rattle.std.specs.Prelude.{◌≡◌, Bool, cond, ◌&&◌, true, List, ℕ, ◌*◌, ◌-◌, ◌/◌, ◌≤◌, leb, length, set, drop, Result, Ok, Err}
use Rattle.ask_refusal.specs.declared.Refusal.{Refusal}
use Rattle.ask_refusal.specs.Refusals.{number_of}
use Rattle.table_rows.specs.Lists.{front}
use Rattle.table_rows.specs.Table.{over}
use Rattle.table_waiting.specs.Waiting as waiting
use Rattle.table_waiting.specs.Waiting.{copies, on_time}
use Rattle.spec_network.specs.Opening.{latest_now}
use Rattle.spec_network.specs.Calls.{Call, flush, rows_in, delivered_in, drops_in}
use Rattle.spec_network.specs.Flush.{lands}
use Rattle.spec_network.specs.Tables.{Tables, cell, sizes_at, net_width, waiting_at, blocks_at}
use Rattle.spec_network.specs.Lending.{lend_flush}
use Rattle.spec_network.specs.Writes.{Reply, row_width}
use Rattle.spec_network.specs.Contract.{DoesOut}
use Rattle.ask_tables.specs.Held.{setup_held, net_held, tills_held, seen_held, waiting_held, blocks_held, log_held}
use Rattle.call_flush_pass.specs.declared.Extents.{Extents}
use Rattle.call_flush_pass.specs.declared.Moved.{Moved}
use Rattle.call_flush_pass.specs.Pass.{flush_view, cleared, recorded, written, moved_of, Room, Due, SeenRoom, LogRoom}
use Rattle.call_flush.specs.declared.Flushed.{Flushed}

-- how many rows, those of them with a handler, and drops; all 0 on a refusal
abbrev pub flushed_of : Reply → Flushed
flushed_of q = record { number = q.number; rows = length (rows_in q.answer); delivered = delivered_in q.answer; dropped = drops_in q.answer }

-- an output has room for so many rows
abbrev pub flush_call : (out : List ℕ) (now : ℕ) → Call
flush_call out now = flush now (length out / row_width)

unfoldable pub DoesFlush : (setup net tills seen waiting blocks log net' seen' waiting' log' : List ℕ) (now : ℕ) → Flushed → (out out' : List ℕ) → Type 0
DoesFlush s n t e w b l n' e' w' l' now r o o' =
    (T : Tables) → DoesOut flushed_of (lend_flush T s n t e w b l) (lend_flush T s n' t e' w' b l') (flush_call o now) r o o'

-- ---- The questions as the code asks them

-- 1
unfoldable pub rows_lent : (setup net waiting blocks log : List ℕ) → Bool
rows_lent s n w b l = waiting_held s n w && (blocks_held s n b && (log_held s l && true))

unfoldable pub flush_lent : (setup net tills seen waiting blocks log : List ℕ) → Bool
flush_lent s n t e w b l = setup_held s && (net_held s n && (tills_held s t && (seen_held s e && rows_lent s n w b l)))

-- 1 and 7, then the rest
unfoldable pub flush_number : (setup net tills seen waiting blocks log : List ℕ) (now rest : ℕ) → ℕ
flush_number s n t e w b l now rest = cond (flush_lent s n t e w b l) (cond (leb now latest_now) rest 7) 1

-- how many copies are due
unfoldable pub due_count : (net waiting : List ℕ) (now : ℕ) → ℕ
due_count n w now = length (front (on_time now) (copies w (cell n waiting_at)))

-- 14
unfoldable pub room_number : (due rows : ℕ) → ℕ
room_number due rows = cond (leb due rows) 0 14

-- ---- The work

unfoldable pub extents_at : (setup net : List ℕ) → Extents
extents_at s n = record { tills = (sizes_at s).tills; slots = (sizes_at s).seen_slots; log = (sizes_at s).log_slots; windows = cell n blocks_at }

abbrev pub refused_by : ℕ → Flushed
refused_by n = record { number = n; rows = 0; delivered = 0; dropped = 0 }

unfoldable pub flushed_by : Moved → Flushed
flushed_by m = record { number = 0; rows = m.rows; delivered = m.delivered; dropped = m.dropped }

-- what C is answered, by a call's result
abbrev pub flushed_reply : Result Moved Refusal → Flushed
flushed_reply (Ok m) = flushed_by m
flushed_reply (Err e) = refused_by (number_of e)

-- what a passed question 1 and 14 give
pub record Ready (z : Extents) (k : ℕ) (ns ts es ws bs ls os : List ℕ) : Type 0 where
  pub net : length ns ≡ net_width
  pub room : Room z ts bs
  pub due : Due z ws os k
  pub seen : SeenRoom z.tills z.slots es
  pub log : LogRoom z.log ls
  pub rows : cell ns waiting_at * waiting.width ≤ length ws
  pub within : k ≤ cell ns waiting_at

-- each table and the reply once the first k of the waiting copies are flushed
pub record Worked (z : Extents) (k : ℕ) (ns ts es ws bs ls ns' es' ws' ls' : List ℕ) (r : Flushed) (os os' : List ℕ) : Type 0 where
  pub net : ns' ≡ set ns waiting_at (cell ns waiting_at - k)
  pub seen : es' ≡ cleared z.tills z.slots (flush_view z ts bs) (copies ws k) es
  pub waiting : ws' ≡ over waiting.form (drop k (copies ws (cell ns waiting_at))) ws
  pub log : ls' ≡ recorded z.log (lands (flush_view z ts bs) (copies ws k)) ls
  pub out : os' ≡ written (flush_view z ts bs) (copies ws k) os
  pub reply : r ≡ flushed_by (moved_of (flush_view z ts bs) (copies ws k))
