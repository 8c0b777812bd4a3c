-- Document 01's book: its live part, and all that happened. It is fed a call and whether a number refused it, nothing else.
use Rattle.std.specs.Prelude.{ℕ, Bool, true, false, cond, List, [], ◌∷◌}
use Rattle.spec_network.specs.Opening.{Opening}
use Rattle.table_waiting.specs.declared.Copy.{Copy}
use Rattle.spec_network.specs.Layout.{plain}
use Rattle.spec_network.specs.Live.{LiveBy, opening_live}
use Rattle.spec_network.specs.Accept.{Entry, Message, message_of, chosen, entered, Drawn, drawn, Fate, deduplicated, partition, loss, fault, sent, fate_of, copies, offered}
use Rattle.spec_network.specs.Flush.{served, stops}
use Rattle.spec_network.specs.Calls.{Call, Answer, silent, live_step, answer_of, Kind, kind_of, accepting, flushing, taking_down, draining, quiet}

-- What happened to a copy, and take-downs.
pub data Event : Type 0 where
  scheduled : Copy → Event
  landed : Copy → Event
  dropped : Copy → Event
  down : ℕ → Event

-- `past` has the latest first.
pub record Book : Type 0 where
  pub live : LiveBy plain
  pub past : List Event

abbrev pub scheduled_in : List Event → List Copy
scheduled_in [] = []
scheduled_in (scheduled c ∷ es) = c ∷ scheduled_in es
scheduled_in (landed c ∷ es) = scheduled_in es
scheduled_in (dropped c ∷ es) = scheduled_in es
scheduled_in (down t ∷ es) = scheduled_in es

abbrev pub landed_in : List Event → List Copy
landed_in [] = []
landed_in (scheduled c ∷ es) = landed_in es
landed_in (landed c ∷ es) = c ∷ landed_in es
landed_in (dropped c ∷ es) = landed_in es
landed_in (down t ∷ es) = landed_in es

abbrev pub dropped_in : List Event → List Copy
dropped_in [] = []
dropped_in (scheduled c ∷ es) = dropped_in es
dropped_in (landed c ∷ es) = dropped_in es
dropped_in (dropped c ∷ es) = c ∷ dropped_in es
dropped_in (down t ∷ es) = dropped_in es

-- ---- What happens in a call

-- to be scheduled is to be put into waiting
abbrev pub scheduling : List Copy → List Event → List Event
scheduling [] es = es
scheduling (c ∷ cs) es = scheduling cs (scheduled c ∷ es)

-- where the flush tests stop a copy, it moves to dropped; else to landed
abbrev pub flush_events : LiveBy plain → List Copy → List Event → List Event
flush_events s [] es = es
flush_events s (c ∷ cs) es = flush_events s cs (cond (stops s c) (dropped c) (landed c) ∷ es)

module _ (o : Opening) where
  module _ (m : Message) where
    abbrev pub events_of : Fate → LiveBy plain → Drawn → ℕ → List Event → List Event
    events_of deduplicated s d t es = es
    events_of partition s d t es = es
    events_of loss s d t es = es
    events_of fault s d t es = es
    events_of sent s d t es = scheduling (copies o m s d t) es

    unfoldable pub offer_events : LiveBy plain → ℕ → List Event → List Event
    offer_events s t es = events_of (fate_of o m s t) s (drawn o m t s) t es

    abbrev pub events_after : LiveBy plain → List ℕ → List Event → List Event
    events_after s [] es = es
    events_after s (t ∷ ts) es = events_after (offered o m s t) ts (offer_events s t es)

  -- what happens before the recipients are judged: nothing
  abbrev pub entering : LiveBy plain → Entry → List Event → List Event
  entering s e es = es

  abbrev pub happened_by : LiveBy plain → Kind → List Event → List Event
  happened_by s (accepting e) es = events_after (message_of o e) (entered o e s) (chosen o s e) (entering s e es)
  happened_by s (flushing now rows) es = flush_events s (served now rows s) es
  happened_by s (taking_down t) es = down t ∷ es
  happened_by s draining es = es
  happened_by s quiet es = es

  abbrev pub happened : LiveBy plain → Call → List Event → List Event
  happened s c es = happened_by s (kind_of c) es

  -- ---- The book, fed the call and whether a number refused it

  abbrev pub opened : List ℕ → Book
  opened masks = record { live = opening_live plain o.sizes masks; past = [] }

  abbrev pub book_step : Book → Call → Bool → Book
  book_step b c true = b
  book_step b c false = record { live = live_step o b.live c; past = happened b.live c b.past }

  abbrev pub expected : Book → Call → Bool → Answer
  expected b c true = silent
  expected b c false = answer_of o b.live c
