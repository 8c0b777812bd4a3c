-- Document 01, 'The book', Flush: one pass over the due copies, table by table: what each copy does to the marks, the log, the output and the counts, and what they all do together.
use Rattle.std.specs.Prelude.{ℕ, ◌+◌, ◌*◌, ◌≤◌, ◌<◌, ◌≡◌, Bool, cond, not, ◌&&◌, List, [], ◌∷◌, eqb, length, get_or, set, drop}
use Rattle.table_shift.specs.Shift.{put_words}
use Rattle.table_rows.specs.Table.{Form, rows_of, over}
use Rattle.table_ring.specs.Ring.{most}
use Rattle.table_waiting.specs.declared.Copy.{Copy}
use Rattle.table_waiting.specs.Waiting as waiting
use Rattle.table_marks.specs.Marks.{ids_of, removed}
use Rattle.table_log.specs.Log.{size_of, pushed, empty_log}
use Rattle.spec_network.specs.Lists.{bit, count, bit_at}
use Rattle.spec_network.specs.Opening.{global}
use Rattle.spec_network.specs.Live.{Till, down_till, Live, is_original}
use Rattle.spec_network.specs.Flush.{Row, stops, row_of, handled, lands, rows_of as landed, drops_of}
use Rattle.spec_network.specs.Tables.{cell, till_form, block_form}
use Rattle.spec_network.specs.Writes.{row_width, row_words}
use Rattle.call_flush_pass.specs.declared.Extents.{Extents}
use Rattle.call_flush_pass.specs.declared.Taken.{Taken}
use Rattle.call_flush_pass.specs.declared.Moved.{Moved}

-- ---- What a flush decides by

abbrev pub till_in : ℕ → List ℕ → ℕ → Till
till_in n tills t = get_or (rows_of till_form tills n) t down_till

unfoldable pub up_in : ℕ → List ℕ → ℕ → Bool
up_in n tills t = not (eqb (till_in n tills t).up 0)

-- the tills as they are now and the block windows, as two tables hold them; a flush reads nothing else of the live part to decide
unfoldable pub flush_view : Extents → (tills blocks : List ℕ) → Live
flush_view z tills blocks = record {
  tills = rows_of till_form tills z.tills;
  seen = [];
  engine = record { blocks = rows_of block_form blocks z.windows; rules = []; installed = 0; words = 0 };
  rings = [];
  words = [];
  queue = record { sequence = 0; waiting = [] };
  log = empty_log;
}

unfoldable pub taken_by : ℕ → List ℕ → Copy → Taken
taken_by n tills c = record {
  gossip = bit_at (till_in n tills c.delivery.to).gossip c.delivery.kind;
  host = eqb c.delivery.scope global && bit_at (till_in n tills c.delivery.to).host c.delivery.kind;
}

-- the row of a landed copy
abbrev pub row_as : Copy → Taken → Row
row_as c k = record { copy = c; gossip = bit k.gossip; host = bit k.host }

unfoldable pub handled_by : Taken → ℕ
handled_by k = bit (not (eqb (bit k.gossip + bit k.host) 0))

-- ---- One copy

-- the mark (t, id) goes, and the till's count follows
unfoldable pub unmarked : (tills slots t id : ℕ) → List ℕ → List ℕ
unmarked tills slots t id seen =
    let start = tills + t * slots in
    let ids = removed id (ids_of seen start (cell seen t)) in
    set (put_words seen start ids) t (length ids)

unfoldable pub cleared_one : (tills slots : ℕ) → Copy → List ℕ → List ℕ
cleared_one tills slots c seen = cond (is_original c) (unmarked tills slots c.delivery.to c.id seen) seen

unfoldable pub cleared_by : (tills slots : ℕ) → Live → Copy → List ℕ → List ℕ
cleared_by tills slots s c seen = cond (stops s c) (cleared_one tills slots c seen) seen

unfoldable pub logged_by : ℕ → Live → Copy → List ℕ → List ℕ
logged_by places s c log = cond (stops s c) log (pushed places log c.delivery)

unfoldable pub row_by : Live → Copy → ℕ → List ℕ → List ℕ
row_by s c i out = cond (stops s c) out (put_words out (i * row_width) (row_words (row_of s c)))

unfoldable pub dropped_more : Moved → Moved
dropped_more m = record { rows = m.rows; delivered = m.delivered; dropped = m.dropped + 1 }

unfoldable pub landed_more : ℕ → Moved → Moved
landed_more h m = record { rows = m.rows + 1; delivered = m.delivered + h; dropped = m.dropped }

unfoldable pub counted_by : Live → Copy → Moved → Moved
counted_by s c m = cond (stops s c) (dropped_more m) (landed_more (bit (handled (row_of s c))) m)

-- ---- All of them, in their order

unfoldable pub cleared : (tills slots : ℕ) → Live → List Copy → List ℕ → List ℕ
cleared tills slots s [] seen = seen
cleared tills slots s (c ∷ cs) seen = cleared tills slots s cs (cleared_by tills slots s c seen)

unfoldable pub recorded : ℕ → List Copy → List ℕ → List ℕ
recorded places [] log = log
recorded places (c ∷ cs) log = recorded places cs (pushed places log c.delivery)

abbrev pub row_form : Form Row
row_form = record { width = row_width; read = λ l. record { copy = waiting.read l; gossip = get_or l waiting.width 0; host = get_or l (waiting.width + 1) 0 }; words = row_words }

unfoldable pub written : Live → List Copy → List ℕ → List ℕ
written s cs out = over row_form (landed s cs) out

unfoldable pub moved_of : Live → List Copy → Moved
moved_of s cs = record { rows = length (lands s cs); delivered = count handled (landed s cs); dropped = drops_of s cs }

-- ---- What questions 1 and 14 give, and what the pass leaves

pub record Room (z : Extents) (ts bs : List ℕ) : Type 0 where
  pub tills : z.tills * till_form.width ≤ length ts
  pub blocks : z.windows * block_form.width ≤ length bs

-- a copy's hosts and type are in range
pub record Near (z : Extents) (c : Copy) : Type 0 where
  pub from : c.delivery.from < z.tills
  pub to : c.delivery.to < z.tills
  pub kind : c.delivery.kind < 64

pub record SeenRoom (tills slots : ℕ) (seen : List ℕ) : Type 0 where
  pub size : tills + tills * slots ≤ length seen
  pub counts : (t : ℕ) → t < tills → cell seen t ≤ slots

pub record LogRoom (places : ℕ) (log : List ℕ) : Type 0 where
  pub few : places ≤ most
  pub size : size_of places ≤ length log

-- all of them, as a pass goes on
pub record Rooms (z : Extents) (ts bs ns ls : List ℕ) : Type 0 where
  pub read : Room z ts bs
  pub seen : SeenRoom z.tills z.slots ns
  pub log : LogRoom z.log ls

-- room for one row more, and counts that can go up
pub record Countable (m : Moved) (os : List ℕ) : Type 0 where
  pub room : (m.rows + 1) * row_width ≤ length os
  pub rows : m.rows < most
  pub delivered : m.delivered < most
  pub dropped : m.dropped < most

-- k copies, each with room for its row
pub record Due (z : Extents) (ws os : List ℕ) (k : ℕ) : Type 0 where
  pub few : k ≤ most
  pub rows : k * waiting.width ≤ length ws
  pub near : (i : ℕ) → i < k → Near z (waiting.read (drop (i * waiting.width) ws))
  pub room : k * row_width ≤ length os

-- log, output and counts after a copy that lands
pub record Landed (z : Extents) (k : Taken) (c : Copy) (m : Moved) (ls ls' os os' : List ℕ) (r : Moved) : Type 0 where
  pub log : ls' ≡ pushed z.log ls c.delivery
  pub out : os' ≡ put_words os (m.rows * row_width) (row_words (row_as c k))
  pub counts : r ≡ landed_more (handled_by k) m

-- each table after one copy
pub record Turned (z : Extents) (s : Live) (c : Copy) (m : Moved) (ns ns' ls ls' os os' : List ℕ) (r : Moved) : Type 0 where
  pub seen : ns' ≡ cleared_by z.tills z.slots s c ns
  pub log : ls' ≡ logged_by z.log s c ls
  pub out : os' ≡ row_by s c m.rows os
  pub counts : r ≡ counted_by s c m

-- each table after the copies cs
pub record Passed (z : Extents) (s : Live) (cs : List Copy) (ns ns' ls ls' os os' : List ℕ) (r : Moved) : Type 0 where
  pub seen : ns' ≡ cleared z.tills z.slots s cs ns
  pub log : ls' ≡ recorded z.log (lands s cs) ls
  pub out : os' ≡ written s cs os
  pub counts : r ≡ moved_of s cs
