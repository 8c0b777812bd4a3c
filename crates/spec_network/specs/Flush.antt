-- Document 01, 'The book', Flush, and network: the rows and the log.
use Rattle.std.specs.Prelude.{ℕ, ◌+◌, Bool, cond, not, ◌&&◌, List, [], ◌∷◌, map, eqb, get_or, set}
use Rattle.table_rows.specs.Rows.{keep}
use Rattle.table_waiting.specs.declared.Copy.{Copy}
use Rattle.table_waiting.specs.Waiting.{on_time}
use Rattle.table_rows.specs.Lists.{front, behind}
use Rattle.spec_network.specs.Lists.{bit, count, bit_at}
use Rattle.table_log.specs.Log.{Log, logged}
use Rattle.spec_network.specs.Opening.{Opening, global}
use Rattle.spec_network.specs.Layout.{Layout, Marks, no_marks, without_mark}
use Rattle.spec_network.specs.Live.{LiveBy, is_original, till_at, stopped, with_seen, with_waiting, with_log}

-- the waiting copies with a time at or before now: a front part, since they stand by time, then sequence
abbrev pub due : {k : Layout} → ℕ → LiveBy k → List Copy
due now s = front (on_time now) s.queue.waiting

-- WHAT A FLUSH SERVES, of now, the rows lent and the live part: every copy due, whatever the rows; and what waits on behind these
abbrev pub served : {k : Layout} → (now rows : ℕ) → LiveBy k → List Copy
served now rows s = due now s

abbrev pub later : {k : Layout} → (now rows : ℕ) → LiveBy k → List Copy
later now rows s = behind (on_time now) s.queue.waiting

-- blocks at the copy's delivery time, down tills as they are now
abbrev pub stops : {k : Layout} → LiveBy k → Copy → Bool
stops s c = stopped s c.delivery.from c.delivery.to c.delivery.time

abbrev pub unmark : (k : Layout) → ℕ → ℕ → List (Marks k) → List (Marks k)
unmark k t i seen = set seen t (without_mark k i (get_or seen t (no_marks k)))

-- a flush drop clears an original's mark
abbrev pub clearing : {k : Layout} → LiveBy k → List Copy → List (Marks k) → List (Marks k)
clearing s [] seen = seen
clearing {k} s (c ∷ cs) seen = clearing s cs (cond (stops s c && is_original c) (unmark k c.delivery.to c.id seen) seen)

-- ---- Rows

-- a landed copy, and whether a gossip and a host handler take it (1 or 0)
pub record Row : Type 0 where
  pub copy : Copy
  pub gossip : ℕ
  pub host : ℕ

-- a host handler takes global entries only
abbrev pub row_of : {k : Layout} → LiveBy k → Copy → Row
row_of s c = record {
  copy = c;
  gossip = bit (bit_at (till_at s c.delivery.to).gossip c.delivery.kind);
  host = bit (eqb c.delivery.scope global && bit_at (till_at s c.delivery.to).host c.delivery.kind);
}

abbrev pub handled : Row → Bool
handled r = not (eqb (r.gossip + r.host) 0)

abbrev pub lands : {k : Layout} → LiveBy k → List Copy → List Copy
lands s cs = keep (λ c. not (stops s c)) cs

abbrev pub rows_of : {k : Layout} → LiveBy k → List Copy → List Row
rows_of s cs = map (row_of s) (lands s cs)

abbrev pub drops_of : {k : Layout} → LiveBy k → List Copy → ℕ
drops_of s cs = count (stops s) cs

-- ---- The log

-- each row's delivery, in their order
abbrev pub logged_all : ℕ → Log → List Copy → Log
logged_all places l [] = l
logged_all places l (c ∷ cs) = logged_all places (logged places l c.delivery) cs

abbrev pub flushed : {k : Layout} → Opening → (now rows : ℕ) → LiveBy k → LiveBy k
flushed o now rows s =
    let s₁ = with_seen s (clearing s (served now rows s) s.seen) in
    let s₂ = with_waiting s₁ s.queue.sequence (later now rows s) in
    with_log s₂ (logged_all o.sizes.log_slots s.log (lands s (served now rows s)))
