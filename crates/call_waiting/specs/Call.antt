-- Document 01, network (in transit) and 'The book' (readings, waiting copies), with questions 1 and 4; document 02, M-101 (in transit counts originals): THE
-- CONTRACTS of in_transit, next_time and waiting_copies. Of the tables `setup`, `net` and `waiting` are lent; the others hold whatever they hold. All stay.
use Rattle.std.specs.Prelude.{Bool, true, cond, ◌&&◌, List, ℕ, ◌/◌, leb, ltb, length, Result, Ok, Err}
use Rattle.ask_refusal.specs.declared.Refusal.{Refusal}
use Rattle.ask_refusal.specs.Refusals.{number_of}
use Rattle.table_waiting.specs.Waiting as waiting
use Rattle.spec_network.specs.Lists.{count}
use Rattle.spec_network.specs.Live.{moves_to}
use Rattle.spec_network.specs.Calls.{Call, Reading, reading, transit, next_time, waiting_copies, Answer, shown}
use Rattle.spec_network.specs.Tables.{Tables, sizes_at}
use Rattle.spec_network.specs.Lending.{lend_waiting}
use Rattle.spec_network.specs.Writes.{Reply}
use Rattle.spec_network.specs.Contract.{Does, DoesOut}
use Rattle.ask_tables.specs.Held.{setup_held, net_held, waiting_held}
use Rattle.call_reply.specs.declared.Value.{Value}
use Rattle.call_reply.specs.Reply.{value_of}
use Rattle.call_waiting.specs.declared.Copied.{Copied}

-- ---- The contracts

-- a reading that answers a number
unfoldable pub Reads : (setup net waiting : List ℕ) → Reading → Value → Type 0
Reads s n w c r = (T : Tables) → Does value_of (lend_waiting T s n w) (lend_waiting T s n w) (reading c) r

abbrev pub DoesTransit : (setup net waiting : List ℕ) (t : ℕ) → Value → Type 0
DoesTransit s n w t r = Reads s n w (transit t) r

abbrev pub DoesNextTime : (setup net waiting : List ℕ) → Value → Type 0
DoesNextTime s n w r = Reads s n w next_time r

-- how many copies an answer has
abbrev pub copies_in : Answer → ℕ
copies_in a = length (shown a).copies

abbrev pub copied_of : Reply → Copied
copied_of q = record { number = q.number; copies = copies_in q.answer }

-- an output has room for so many copies
abbrev pub copies_call : (out : List ℕ) → Call
copies_call out = reading (waiting_copies (length out / waiting.width))

unfoldable pub DoesCopies : (setup net waiting : List ℕ) → Copied → (out out' : List ℕ) → Type 0
DoesCopies s n w r o o' = (T : Tables) → DoesOut copied_of (lend_waiting T s n w) (lend_waiting T s n w) (copies_call o) r o o'

-- ---- The questions as the code asks them

-- 1
unfoldable pub waiting_lent : (setup net waiting : List ℕ) → Bool
waiting_lent s n w = setup_held s && (net_held s n && (waiting_held s n w && true))

-- 1, then the rest
unfoldable pub lent_number : (setup net waiting : List ℕ) (rest : ℕ) → ℕ
lent_number s n w rest = cond (waiting_lent s n w) rest 1

-- 4
unfoldable pub till_number : (setup : List ℕ) (t : ℕ) → ℕ
till_number s t = cond (ltb t (sizes_at s).tills) 0 4

-- 1 once more: an output that is shorter than the waiting slots
unfoldable pub out_number : (setup : List ℕ) (rows : ℕ) → ℕ
out_number s rows = cond (leb (sizes_at s).wait_slots rows) 0 1

-- ---- The work

-- how many of the first n copies are originals to a till
unfoldable pub transit_of : ℕ → List ℕ → ℕ → ℕ
transit_of t w n = count (moves_to t) (waiting.copies w n)

abbrev pub not_copied : ℕ → Copied
not_copied n = record { number = n; copies = 0 }

-- what C is answered, by a call's result
abbrev pub copied_reply : Result ℕ Refusal → Copied
copied_reply (Ok k) = record { number = 0; copies = k }
copied_reply (Err e) = not_copied (number_of e)
