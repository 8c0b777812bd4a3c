-- Document 01, network (`take_down`, `bring_up`) and 'What changes shape' (handlers), with questions 1, 4 and 5: THE CONTRACTS of the calls on tills and marks. Of the
-- tables `setup` and `tills`, `seen` or both are lent; the others hold whatever they hold, and stay.
use Rattle.std.specs.Prelude.{Result, Ok, Err, List, ℕ, length}
use Rattle.ask_refusal.specs.declared.Refusal.{Refusal}
use Rattle.ask_refusal.specs.Refusals.{number_of}
use Rattle.spec_network.specs.Calls.{Call, take_down, bring_up, handlers, reading, is_down, marks_of, Answer, shown}
use Rattle.spec_network.specs.Tables.{Tables}
use Rattle.spec_network.specs.Lending.{lend_tills, lend_seen, lend_tills_seen}
use Rattle.spec_network.specs.Writes.{Reply}
use Rattle.spec_network.specs.Contract.{Does, DoesOut}
use Rattle.call_reply.specs.declared.Done.{Done}
use Rattle.call_reply.specs.declared.Value.{Value}
use Rattle.call_reply.specs.Reply.{done_of, value_of}
use Rattle.call_till.specs.declared.Marks.{Marks}

-- the till is down: its marks, handlers and shards go, its waiting copies stay
unfoldable pub DoesTakeDown : (setup tills seen tills' seen' : List ℕ) (t : ℕ) → Done → Type 0
DoesTakeDown s a m a' m' t r = (T : Tables) → Does done_of (lend_tills_seen T s a m) (lend_tills_seen T s a' m') (take_down t) r

-- a call that writes `tills` alone
unfoldable pub Changes : (setup tills tills' : List ℕ) → Call → Done → Type 0
Changes s a a' c r = (T : Tables) → Does done_of (lend_tills T s a) (lend_tills T s a') c r

abbrev pub DoesBringUp : (setup tills tills' : List ℕ) (t shards : ℕ) → Done → Type 0
DoesBringUp s a a' t shards r = Changes s a a' (bring_up t shards) r

abbrev pub DoesSetHandlers : (setup tills tills' : List ℕ) (t gossip host : ℕ) → Done → Type 0
DoesSetHandlers s a a' t gossip host r = Changes s a a' (handlers t gossip host) r

unfoldable pub DoesIsDown : (setup tills : List ℕ) (t : ℕ) → Value → Type 0
DoesIsDown s a t r = (T : Tables) → Does value_of (lend_tills T s a) (lend_tills T s a) (reading (is_down t)) r

-- how many ids an answer has
abbrev pub ids_in : Answer → List ℕ
ids_in a = (shown a).ids

abbrev pub marks_reply : Reply → Marks
marks_reply q = record { number = q.number; count = length (ids_in q.answer) }

-- what C is answered, by the call's result
abbrev pub marks_answer : Result ℕ Refusal → Marks
marks_answer (Ok n) = record { number = 0; count = n }
marks_answer (Err e) = record { number = number_of e; count = 0 }

-- the marks at the front of the output
unfoldable pub DoesMarksOf : (setup seen : List ℕ) (t : ℕ) → Marks → (out out' : List ℕ) → Type 0
DoesMarksOf s m t r out out' = (T : Tables) → DoesOut marks_reply (lend_seen T s m) (lend_seen T s m) (reading (marks_of t (length out))) r out out'
