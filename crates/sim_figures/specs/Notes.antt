-- What each note does to the figures.
use Rattle.std.specs.Prelude.{ℕ, zero, suc, ◌+◌, min, Bool, false, true, cond, not, List, length, drop, ◌==◌, nat_le, nat_lt, slice_index, slice_set}
use Rattle.fault_rule.specs.Rule.{has}
use Rattle.table_waiting.specs.declared.Copy.{Copy}
use Rattle.table_waiting.specs.Waiting as waiting
use Rattle.sim_figures.specs.declared.Five.{Five}
use Rattle.sim_figures.specs.declared.Said.{Said}
use Rattle.sim_figures.specs.declared.Tally.{Tally}
use Rattle.sim_figures.specs.declared.Figures.{Figures}
use Rattle.sim_figures.specs.Figures.{plus, no_figures, refused_row, refused_of, class_of, with_class, till_of, with_till, five_added, said_added, tally_added, counted}

-- ---- Shard masks, as the opening, the take-downs and the bring-ups give them

abbrev pub up_note : Figures → ℕ → ℕ → Figures
up_note l t mask = with_till l t (record (till_of l t) { mask = mask })

unfoldable pub masked : Figures → List ℕ → ℕ → Figures
masked l masks zero = l
masked l masks (suc t) = up_note (masked l masks t) t (slice_index masks t)

-- all figures 0, then the opening's
unfoldable pub opened_note : ℕ → List ℕ → ℕ → ℕ → Figures
opened_note tills masks log sequence =
    masked (record no_figures { tills = tills; log = log; first = sequence; last = sequence }) masks (min tills (length masks))

unfoldable pub down_note : Figures → ℕ → ℕ → Figures
down_note l t gone = record (up_note l t 0) { down_marks = plus l.down_marks gone }

-- ---- Accept

-- no shard
abbrev pub global : ℕ
global = 16

-- is t a recipient other than the sender: any till for a global entry, else one whose mask holds the shard?
unfoldable pub receives : Figures → ℕ → ℕ → ℕ → Bool
receives l from scope t =
    cond (t == from) false (cond (scope == global) true (cond (nat_lt scope 64) (has (till_of l t).mask scope) false))

abbrev pub bit : Bool → ℕ
bit b = cond b 1 0

-- how many of the first n tills are
unfoldable pub recipients_of : Figures → ℕ → ℕ → ℕ → ℕ
recipients_of l from scope zero = 0
recipients_of l from scope (suc n) = recipients_of l from scope n + bit (receives l from scope n)

-- a payload that does not open has none
unfoldable pub counted_of : Figures → ℕ → ℕ → Bool → ℕ
counted_of l from scope opens = cond opens (recipients_of l from scope l.tills) 0

unfoldable pub accepted_note : Figures → ℕ → ℕ → Bool → Five → ℕ → Figures
accepted_note l from scope opens five sequence =
    let l₁ = record l { accepts = plus l.accepts 1; recipients = plus l.recipients (counted_of l from scope opens); five = five_added l.five five; last = sequence } in
    with_till l₁ from (record (till_of l from) { sent = five_added (till_of l from).sent five })

unfoldable pub refused_note : Figures → ℕ → Figures
refused_note l number = record l { refused = slice_set l.refused (refused_row number) (plus (refused_of l number) 1) }

-- ---- Copies

-- does a row stand behind the one before it, by time, then sequence?
unfoldable pub behind : ℕ → ℕ → ℕ → ℕ → Bool
behind time sequence time' sequence' = cond (nat_lt time time') true (cond (time == time') (nat_lt sequence sequence') false)

unfoldable pub order_note : Figures → ℕ → ℕ → Figures
order_note l time sequence =
    record l { late = plus l.late (bit (not (behind l.time l.sequence time sequence))); time = time; sequence = sequence }

unfoldable pub class_note : Figures → ℕ → ℕ → Figures
class_note l class wire = with_class l class (record (class_of l class) { rows = tally_added (class_of l class).rows (record { deliveries = 1; bytes = wire }) })

-- does a handler take the row?
abbrev pub taken : ℕ → ℕ → Bool
taken gossip host = cond (gossip == 0) (not (host == 0)) true

unfoldable pub landed_note : Figures → Copy → Bool → Figures
landed_note l c handled =
    let l₁ = with_till l c.delivery.to (record (till_of l c.delivery.to) { received = plus (till_of l c.delivery.to).received 1 }) in
    let l₂ = record l₁ { landed = counted l.landed c.original; handled = plus l.handled (bit handled) } in
    class_note (order_note l₂ c.delivery.time c.sequence) c.delivery.class c.delivery.wire

unfoldable pub dropped_note : Figures → Copy → Figures
dropped_note l c =
    let l₁ = record l { dropped = counted l.dropped c.original } in
    let l₂ = with_till l₁ c.delivery.to (record (till_of l₁ c.delivery.to) { lost_to = plus (till_of l₁ c.delivery.to).lost_to 1 }) in
    with_till l₂ c.delivery.from (record (till_of l₂ c.delivery.from) { lost_from = plus (till_of l₂ c.delivery.from).lost_from 1 })

unfoldable pub waiting_note : Figures → Copy → Figures
waiting_note l c = record l { waiting = counted l.waiting c.original }

-- so many in transit to a till, as the reading says
unfoldable pub transit_note : Figures → ℕ → ℕ → Figures
transit_note l t n = with_till l t (record (till_of l t) { transit = plus (till_of l t).transit n })

-- a row's words are a copy's and its two handlers'; words that reach past the table's end are no note
unfoldable pub row_note : Figures → List ℕ → ℕ → Figures
row_note l out b =
    cond (nat_le (b + (waiting.width + 2)) (length out))
    (landed_note l (waiting.read (drop b out)) (taken (slice_index out (b + waiting.width)) (slice_index out (b + (waiting.width + 1)))))
    l

unfoldable pub drop_note : Figures → List ℕ → ℕ → Figures
drop_note l copies b = cond (nat_le (b + waiting.width) (length copies)) (dropped_note l (waiting.read (drop b copies))) l

unfoldable pub wait_note : Figures → List ℕ → ℕ → Figures
wait_note l copies b = cond (nat_le (b + waiting.width) (length copies)) (waiting_note l (waiting.read (drop b copies))) l

-- ---- A flush's end: its own counts, the marks that went; the next flush begins a new order

unfoldable pub flushed_note : Figures → Said → ℕ → Figures
flushed_note l said gone =
    record l { flushes = plus l.flushes 1; said = said_added l.said said; flush_marks = plus l.flush_marks gone; time = 0; sequence = 0 }

-- ---- The log's tallies of a class, where it is drained and at the end; the marks that stand at the end

unfoldable pub tallied_note : Figures → ℕ → Tally → Figures
tallied_note l class tally = with_class l class (record (class_of l class) { logged = tally_added (class_of l class).logged tally })

unfoldable pub standing_note : Figures → ℕ → Figures
standing_note l marks = record l { standing = marks }
