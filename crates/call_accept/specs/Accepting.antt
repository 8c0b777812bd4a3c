-- Document 01, 'The book', Accept, with questions 1 and 4 to 11: THE CONTRACT of accept. Every table but the log is lent; the log holds whatever it holds, and stays.
use Rattle.std.specs.Prelude.{ℕ, not, List, eqb, Result, Ok, Err}
use Rattle.ask_refusal.specs.declared.Refusal.{Refusal}
use Rattle.ask_refusal.specs.Refusals.{number_of}
use Rattle.spec_network.specs.Accept.{Entry, Counts, no_counts}
use Rattle.call_schedule.specs.declared.Counts as counted
use Rattle.call_schedule.specs.Writing.{counts_of}
use Rattle.spec_network.specs.Calls.{Call, accept, counts_in}
use Rattle.spec_network.specs.Tables.{Tables}
use Rattle.spec_network.specs.Lending.{lend_accept}
use Rattle.spec_network.specs.Writes.{Reply}
use Rattle.spec_network.specs.Contract.{Does}
use Rattle.call_accept.specs.declared.Accepted.{Accepted}
use Rattle.call_accept.specs.declared.Entry as given

-- the arguments as `Accept` has them; `opens` is 0 for a payload that does not open
abbrev pub entry_of : (wire : List ℕ) (from now kind class scope tag : ℕ) → Entry
entry_of wire from now kind class scope tag = record { from = from; now = now; kind = kind; class = class; scope = scope; wire = wire; tag = tag }

abbrev pub entry_in : given.Entry → Entry
entry_in g = entry_of g.wire.now g.from g.at g.kind g.class g.scope g.tag

abbrev pub call_of : (wire : List ℕ) (from now kind class scope tag opens : ℕ) → Call
call_of wire from now kind class scope tag opens = accept (entry_of wire from now kind class scope tag) (not (eqb opens 0))

-- the number and the five counts, all 0 on refusal
abbrev pub counted_as : ℕ → Counts → Accepted
counted_as n c = record { number = n; sent = c.sent; deduplicated = c.deduplicated; partition = c.partition; loss = c.loss; fault = c.fault }

-- what C is answered, by a call's result
abbrev pub accepted_reply : Result counted.Counts Refusal → Accepted
accepted_reply (Ok c) = counted_as 0 (counts_of c)
accepted_reply (Err e) = counted_as (number_of e) no_counts

abbrev pub accepted_of : Reply → Accepted
accepted_of q = counted_as q.number (counts_in q.answer)

unfoldable pub DoesAccept : (setup net names tills words keys prices seen waiting rings rules blocks net' words' seen' waiting' rings' rules' : List ℕ) → Call → Accepted → Type 0
DoesAccept setup net names tills words keys prices seen waiting rings rules blocks net' words' seen' waiting' rings' rules' call r =
    (T : Tables)
    → Does accepted_of
    (lend_accept T setup net names tills words keys prices seen waiting rings rules blocks)
    (lend_accept T setup net' names tills words' keys prices seen' waiting' rings' rules' blocks)
    call
    r
