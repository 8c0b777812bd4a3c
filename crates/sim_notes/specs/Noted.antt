-- What is noted behind each line of a script: the figures of the run, and the copies that were due at the last flush.
use Rattle.std.specs.Prelude.{ℕ, zero, suc, ◌+◌, ◌-◌, ◌*◌, ◌%◌, ◌^◌, min, cond, List, take, ◌==◌, slice_index, Result, Ok, Err}
use Rattle.table_delivery.specs.Delivery as delivery
use Rattle.table_waiting.specs.Waiting as waiting
use Rattle.table_log.specs.Log.{size_of}
use Rattle.spec_network.specs.Opening.{most_tills, most_classes, most_slots}
use Rattle.spec_network.specs.Tables.{cell, sizes_at, sequence_at, waiting_at}
use Rattle.spec_network.specs.Writes.{call_reply}
use Rattle.spec_network.specs.Calls.{reading, transit}
use Rattle.spec_network.specs.Lending.{lend_log, lend_waiting, no_tables}
use Rattle.call_reply.specs.Reply.{value_of}
use Rattle.call_reply.specs.declared.Value.{Value}
use Rattle.call_log.specs.Call.{tallied_of, tally_call}
use Rattle.call_log.specs.declared.Tallied.{Tallied}
use Rattle.ask_refusal.specs.declared.Refusal.{Refusal}
use Rattle.ask_refusal.specs.Refusals.{number_of}
use Rattle.sim_script.specs.declared.calls.Accept.{Accept}
use Rattle.sim_script.specs.declared.calls.Call.{Call}
use Rattle.sim_script.specs.declared.calls.Call.TheVariants.{Accept as AcceptCall, Flush as FlushCall, Drain, Change as ChangeCall}
use Rattle.sim_script.specs.declared.calls.Change.TheVariants.{Down, Up}
use Rattle.sim_outcome.specs.declared.Outcome.{Outcome}
use Rattle.sim_outcome.specs.declared.Outcome.TheVariants.{Bad, Refused, Done, Accepted, Flushed}
use Rattle.sim_figures.specs.declared.Five.{Five}
use Rattle.sim_figures.specs.declared.Said.{Said}
use Rattle.sim_figures.specs.declared.Tally.{Tally}
use Rattle.sim_figures.specs.declared.Figures.{Figures}
use Rattle.sim_figures.specs.Notes.{opened_note, down_note, up_note, accepted_note, refused_note, row_note, drop_note, wait_note, transit_note, flushed_note, tallied_note, standing_note}

-- ---- The marks that stand, of all tills; the sum wraps at 2^64

unfoldable pub total_of : List ℕ → ℕ → ℕ
total_of seen zero = 0
total_of seen (suc t) = (total_of seen t + cell seen t) % 2 ^ 64

unfoldable pub marks_in : (setup seen : List ℕ) → ℕ
marks_in setup seen = total_of seen (min (sizes_at setup).tills most_tills)

-- ---- The log's tallies of every class, as `tally_of` answers them: what a drain takes away, and what stands at the end

-- of the other tables nothing is read
unfoldable pub tally_in : (setup log : List ℕ) → ℕ → Tallied
tally_in setup log class = tallied_of (call_reply (lend_log no_tables setup log) (tally_call class))

abbrev pub tally_figures : Tallied → Tally
tally_figures t = record { deliveries = t.deliveries; bytes = t.bytes }

unfoldable pub class_tallied : Figures → (setup log : List ℕ) → ℕ → Figures
class_tallied l setup log class = tallied_note l class (tally_figures (tally_in setup log class))

-- the first n classes
unfoldable pub tallies_of : Figures → (setup log : List ℕ) → ℕ → Figures
tallies_of l setup log zero = l
tallies_of l setup log (suc n) = class_tallied (tallies_of l setup log n) setup log n

-- the words of the log's table that the opening uses
abbrev pub log_words : (setup : List ℕ) → ℕ
log_words setup = size_of (min (sizes_at setup).log_slots most_slots)

unfoldable pub tallies_note : Figures → (setup log : List ℕ) → Figures
tallies_note l setup log = tallies_of l setup (take (log_words setup) log) most_classes

unfoldable pub before_note : Figures → Call → (setup log : List ℕ) → Figures
before_note l Drain setup log = tallies_note l setup log
before_note l _ setup log = l

-- ---- A flush: a copy that was due landed where the next row has its sequence; else the flush dropped it

-- where a copy has its sequence, how many words a row has
abbrev pub sequence_of : ℕ
sequence_of = delivery.width

abbrev pub row_width : ℕ
row_width = waiting.width + 2

-- where the last of the due copies and the last of the rows end
abbrev pub copies_end : ℕ
copies_end = most_slots * waiting.width

abbrev pub rows_end : ℕ
rows_end = most_slots * row_width

-- the figures, and where the next row starts
pub record Noted : Type 0 where
  pub held : Figures
  pub row : ℕ

abbrev pub noted : Figures → ℕ → Noted
noted l row = record { held = l; row = row }

unfoldable pub due_note : Noted → (due out : List ℕ) → (at : ℕ) → Noted
due_note p due out at =
    cond (slice_index due (at + sequence_of) == slice_index out (p.row + sequence_of))
    (noted (row_note p.held out p.row) (p.row + row_width))
    (noted (drop_note p.held due at) p.row)

-- the first n copies that were due
unfoldable pub due_notes : Figures → (due out : List ℕ) → ℕ → Noted
due_notes l due out zero = noted l 0
due_notes l due out (suc n) = due_note (due_notes l due out n) due out (n * waiting.width)

-- the words of so many rows
abbrev pub rows_words : ℕ → ℕ
rows_words rows = min rows most_slots * row_width

-- what the flush said of itself, and how many copies were due
unfoldable pub flush_note : Figures → (due : List ℕ) → Said → (copies gone : ℕ) → (out : List ℕ) → Figures
flush_note l due said copies gone out =
    flushed_note (due_notes l due (take (rows_words said.rows) out) (min copies most_slots)).held said gone

-- ---- A call that no question refused, from its words and what it told; gone is how many marks went

unfoldable pub accept_note : Figures → Accept → Five → (net : List ℕ) → Figures
accept_note l entry five net = accepted_note l entry.«from» entry.scope entry.opens five (cell net sequence_at)

-- an outcome that the call cannot have notes nothing
unfoldable pub taken_note : Figures → (due : List ℕ) → Call → Outcome → (gone : ℕ) → (net out : List ℕ) → Figures
taken_note l due (AcceptCall entry) (Accepted five) gone net out = accept_note l entry five net
taken_note l due (FlushCall flush) (Flushed said copies) gone net out = flush_note l due said copies gone out
taken_note l due (ChangeCall (Down till)) Done gone net out = down_note l till gone
taken_note l due (ChangeCall (Up till shards)) Done gone net out = up_note l till shards
taken_note l due _ _ gone net out = l

-- ---- Behind a line: nothing where it is no call, the question's number where one refused it; so many marks stood before it

unfoldable pub after_note : Figures → (due : List ℕ) → Call → Outcome → (stood : ℕ) → (setup net seen out : List ℕ) → Figures
after_note l due call Bad stood setup net seen out = l
after_note l due call (Refused refusal) stood setup net seen out = refused_note l (number_of refusal)
after_note l due call told stood setup net seen out = taken_note l due call told (stood - marks_in setup seen) net out

unfoldable pub opening_note : {T : Type 0} → Figures → Result T Refusal → (tills : ℕ) → (masks : List ℕ) → (log : ℕ) → (net : List ℕ) → Figures
opening_note l (Ok v) tills masks log net = opened_note tills masks log (cell net sequence_at)
opening_note l (Err refusal) tills masks log net = refused_note l (number_of refusal)

-- ---- In transit to every till, as the reading answers it

-- of the other tables nothing is read
unfoldable pub transit_in : (setup net waiting : List ℕ) → ℕ → Value
transit_in setup net copies t = value_of (call_reply (lend_waiting no_tables setup net copies) (reading (transit t)))

unfoldable pub till_transit : Figures → (setup net waiting : List ℕ) → ℕ → Figures
till_transit l setup net copies t = transit_note l t (transit_in setup net copies t).value

-- the first n tills
unfoldable pub transits_of : Figures → (setup net waiting : List ℕ) → ℕ → Figures
transits_of l setup net copies zero = l
transits_of l setup net copies (suc n) = till_transit (transits_of l setup net copies n) setup net copies n

-- the words of the table of waiting copies that the opening uses
abbrev pub wait_words : (setup : List ℕ) → ℕ
wait_words setup = min (sizes_at setup).wait_slots most_slots * waiting.width

unfoldable pub transits_note : Figures → (setup net waiting : List ℕ) → Figures
transits_note l setup net copies = transits_of l setup net (take (wait_words setup) copies) (min (sizes_at setup).tills most_tills)

-- ---- At the end: what waits, what is in transit, the tallies and the marks that stand

unfoldable pub waits_of : Figures → (waiting : List ℕ) → ℕ → Figures
waits_of l copies zero = l
waits_of l copies (suc n) = wait_note (waits_of l copies n) copies (n * waiting.width)

unfoldable pub end_note : Figures → (setup net seen waiting log : List ℕ) → Figures
end_note l setup net seen copies log =
    standing_note (tallies_note (transits_note (waits_of l copies (min (cell net waiting_at) most_slots)) setup net copies) setup log) (marks_in setup seen)
