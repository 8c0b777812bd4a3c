-- Document 01, network: the delivery log, in one table, count and first slot of its ring at 0 and 1, records forced out, tallies of each class, then the records.
use Rattle.std.specs.Prelude.{ℕ, ◌+◌, ◌*◌, ◌%◌, ◌^◌, ◌<◌, ◌≤◌, Bool, cond, List, [], ◌∷◌, ◌++◌, length, drop, replicate, ◌==◌, nat_lt, slice_index, slice_index_or, slice_set, refl}
use Rattle.std.proofs.Common.{arith}
use Rattle.table_shift.proofs.Blocks.{cells_eq}
use Rattle.table_shift.specs.Shift.{put_words}
use Rattle.table_rows.specs.Table.{Form, Exact, rows_of}
use Rattle.table_ring.specs.Ring.{push, count_at, first_at, sound_at, slot_of, slot_at, ring_at, written_at}
use Rattle.table_delivery.specs.declared.Delivery.{Delivery}
use Rattle.table_delivery.specs.Delivery as delivery
use Rattle.table_log.specs.declared.Tally.{Tally}

-- ---- What a log holds, and one delivery more

pub record Log : Type 0 where
  pub records : List Delivery  -- oldest first
  pub forced : ℕ
  pub tallies : List Tally

-- tallies and the forced count wrap at 2^64
abbrev pub wrap : ℕ → ℕ
wrap n = n % 2 ^ 64

abbrev pub no_tally : Tally
no_tally = record { deliveries = 0; bytes = 0 }

abbrev pub tallied : Tally → ℕ → Tally
tallied t wire = record { deliveries = wrap (t.deliveries + 1); bytes = wrap (t.bytes + wire) }

-- a log of capacity 0 keeps neither records nor tallies; a class without a tally has none
abbrev pub logged : ℕ → Log → Delivery → Log
logged capacity l d =
    cond (capacity == 0) l
    (record {
      records = push capacity l.records d;
      forced = cond (nat_lt (length l.records) capacity) l.forced (wrap (l.forced + 1));
      tallies = slice_set l.tallies d.class (tallied (slice_index_or l.tallies d.class no_tally) d.wire);
    })

-- ---- The table

abbrev pub classes : ℕ
classes = 8

abbrev pub tally_width : ℕ
tally_width = 2

-- where the forced count, the tallies and the records stand
abbrev pub forced_at : ℕ
forced_at = 2

abbrev pub tallies_at : ℕ
tallies_at = 3

abbrev pub records_at : ℕ
records_at = tallies_at + classes * tally_width

abbrev pub size_of : ℕ → ℕ
size_of capacity = records_at + capacity * delivery.width

abbrev pub tally_form : Form Tally
tally_form = record { width = tally_width; read = λ l. record { deliveries = slice_index l 0; bytes = slice_index l 1 }; words = λ t. t.deliveries ∷ t.bytes ∷ [] }

-- a tally and its words: each way undoes the other
pub tally_exact : Exact tally_form
tally_exact = record { long = λ t. refl; back = λ t m. refl; whole = λ l h. cells_eq l 0 0 tally_width (omega arith) }

abbrev pub records_of : ℕ → List ℕ → List Delivery
records_of capacity log = ring_at delivery.form capacity 0 records_at log

-- the k-th oldest
abbrev pub record_at : ℕ → List ℕ → ℕ → Delivery
record_at capacity log k = slot_at delivery.form capacity 0 records_at log (slot_of capacity (first_at 0 log) k)

abbrev pub tallies_of : List ℕ → List Tally
tallies_of log = rows_of tally_form (drop tallies_at log) classes

abbrev pub log_of : ℕ → List ℕ → Log
log_of capacity log = record { records = records_of capacity log; forced = slice_index log forced_at; tallies = tallies_of log }

abbrev pub empty_log : Log
empty_log = record { records = []; forced = 0; tallies = replicate classes no_tally }

-- what question 1 asks of the log's head
abbrev pub sound_log : ℕ → List ℕ → Bool
sound_log capacity log = cond (capacity == 0) (count_at 0 log == 0) (sound_at capacity 0 log)

pub record SoundLog (capacity : ℕ) (log : List ℕ) : Type 0 where
  pub counted : count_at 0 log ≤ capacity
  pub begun : 0 < capacity → first_at 0 log < capacity

-- a class's tally
unfoldable pub tally_at : List ℕ → ℕ → Tally
tally_at log class = slice_index_or (tallies_of log) class no_tally

-- one delivery more of a class
unfoldable pub tallied_at : List ℕ → ℕ → ℕ → List ℕ
tallied_at log class wire = cond (nat_lt class classes) (put_words log (tallies_at + class * tally_width) (tally_form.words (tallied (tally_at log class) wire))) log

-- one record more forced out, where all slots are taken
unfoldable pub noted_at : ℕ → List ℕ → List ℕ
noted_at capacity log = cond (nat_lt (count_at 0 log) capacity) log (slice_set log forced_at (wrap (slice_index log forced_at + 1)))

-- a delivery logged; a table whose head is not in range stays as it is
unfoldable pub pushed : ℕ → List ℕ → Delivery → List ℕ
pushed capacity log d = cond (sound_at capacity 0 log) (written_at delivery.form capacity 0 records_at (noted_at capacity (tallied_at log d.class d.wire)) d) log

-- the head at 0
unfoldable pub cleared_at : List ℕ → List ℕ
cleared_at log = replicate records_at 0 ++ drop records_at log
