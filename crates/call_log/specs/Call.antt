-- Document 01, network (the delivery log), with questions 1 and 5: THE CONTRACTS of drain and tally_of. Of the tables `setup` and `log` are lent; the others hold whatever they hold, and stay.
use Rattle.std.specs.Prelude.{Bool, true, cond, ◌&&◌, List, ℕ, ◌*◌, ◌/◌, leb, ltb, length, replicate, Result, Ok, Err}
use Rattle.ask_refusal.specs.declared.Refusal.{Refusal}
use Rattle.ask_refusal.specs.Refusals.{number_of}
use Rattle.table_rows.specs.Rows.{flat}
use Rattle.table_delivery.specs.Delivery as delivery
use Rattle.table_log.specs.declared.Tally.{Tally}
use Rattle.table_log.specs.Log.{tally_form, classes, tally_width}
use Rattle.spec_network.specs.Calls.{Call, drain, reading, tally_of, Answer, shown}
use Rattle.spec_network.specs.Tables.{Tables, sizes_at}
use Rattle.spec_network.specs.Lending.{lend_log}
use Rattle.spec_network.specs.Writes.{Reply}
use Rattle.spec_network.specs.Contract.{Does, DoesOut}
use Rattle.ask_tables.specs.Held.{setup_held, log_held}
use Rattle.call_log.specs.declared.Drained.{Drained}
use Rattle.call_log.specs.declared.Emptied.{Emptied}
use Rattle.call_log.specs.declared.Tallied.{Tallied}

-- ---- The replies

-- how many records an answer has, and how many the capacity forced out
abbrev pub records_in : Answer → ℕ
records_in a = length (shown a).log.records

abbrev pub forced_in : Answer → ℕ
forced_in a = (shown a).log.forced

-- deliveries and bytes of each class, class by class
unfoldable pub tally_cells : List Tally → List ℕ
tally_cells ts = flat tally_form.words ts

abbrev pub no_cells : List ℕ
no_cells = replicate (classes * tally_width) 0

abbrev pub cells_in : Answer → List ℕ
cells_in a = tally_cells (shown a).log.tallies

abbrev pub tally_in : Answer → Tally
tally_in a = (shown a).tally

abbrev pub drained_of : Reply → Drained
drained_of q = record { number = q.number; records = records_in q.answer; forced = forced_in q.answer; tallies = cells_in q.answer }

abbrev pub tallied_of : Reply → Tallied
tallied_of q = record { number = q.number; deliveries = (tally_in q.answer).deliveries; bytes = (tally_in q.answer).bytes }

-- ---- The contracts

-- an output has room for so many records
abbrev pub drain_call : (out : List ℕ) → Call
drain_call out = drain (length out / delivery.width)

unfoldable pub DoesDrain : (setup log log' : List ℕ) → Drained → (out out' : List ℕ) → Type 0
DoesDrain s l l' r o o' = (T : Tables) → DoesOut drained_of (lend_log T s l) (lend_log T s l') (drain_call o) r o o'

abbrev pub tally_call : ℕ → Call
tally_call class = reading (tally_of class)

unfoldable pub DoesTally : (setup log : List ℕ) (class : ℕ) → Tallied → Type 0
DoesTally s l class r = (T : Tables) → Does tallied_of (lend_log T s l) (lend_log T s l) (tally_call class) r

-- ---- The questions as the code asks them

-- 1
unfoldable pub log_lent : (setup log : List ℕ) → Bool
log_lent s l = setup_held s && (log_held s l && true)

-- 1, also of an output that is shorter than the log's capacity
unfoldable pub drain_number : (setup log : List ℕ) (rows : ℕ) → ℕ
drain_number s l rows = cond (log_lent s l) (cond (leb (sizes_at s).log_slots rows) 0 1) 1

-- 1 and 5
unfoldable pub tally_number : (setup log : List ℕ) (class : ℕ) → ℕ
tally_number s l class = cond (log_lent s l) (cond (ltb class (sizes_at s).classes) 0 5) 1

abbrev pub no_drain : ℕ → Drained
no_drain n = record { number = n; records = 0; forced = 0; tallies = no_cells }

abbrev pub no_tallies : ℕ → Tallied
no_tallies n = record { number = n; deliveries = 0; bytes = 0 }

-- ---- What C is answered, by a call's result

abbrev pub drained_reply : Result Emptied Refusal → Drained
drained_reply (Ok e) = record { number = 0; records = e.records; forced = e.forced; tallies = e.tallies }
drained_reply (Err e) = no_drain (number_of e)

abbrev pub tallied_reply : Result Tally Refusal → Tallied
tallied_reply (Ok t) = record { number = 0; deliveries = t.deliveries; bytes = t.bytes }
tallied_reply (Err e) = no_tallies (number_of e)
