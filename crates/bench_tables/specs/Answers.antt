-- The tables as C functions, for the benchmark: what each answers and leaves in the lent tables, whatever they hold. Number 0 and a value; where lengths, counts
-- or a head do not fit, number 1, value 0, and every table as found.
use Rattle.std.specs.Prelude.{Bool, cond, ◌&&◌, List, [], ◌∷◌, ℕ, ◌+◌, ◌*◌, ◌/◌, leb, ltb, length, drop}
use Rattle.table_shift.specs.Shift.{put_words}
use Rattle.table_rows.specs.Lists.{front}
use Rattle.table_rows.specs.Table.{over}
use Rattle.table_delivery.specs.Delivery as delivery
use Rattle.table_waiting.specs.Waiting as waiting
use Rattle.table_marks.specs.Marks.{ids_of, found, placed, removed}
use Rattle.table_ring.specs.Ring.{most, sound_at, count_at}
use Rattle.table_rings.specs.declared.Entry.{Entry}
use Rattle.table_rings.specs.Rings as rings
use Rattle.table_log.specs.Log as log
use Rattle.table_scan.specs.declared.Limits.{Limits}
use Rattle.table_scan.specs.Scan.{copies_near, rings_near}
use Rattle.bench_tables.specs.declared.Told.{Told}

abbrev pub valued : ℕ → Told
valued v = record { number = 0; value = v }

abbrev pub not_fit : Told
not_fit = record { number = 1; value = 0 }

abbrev pub bit : Bool → ℕ
bit b = cond b 1 0

-- the reply, and the lent tables at exit
pub record Left : Type 0 where
  pub reply : Told
  pub tables : List (List ℕ)

abbrev pub left : Told → List (List ℕ) → Left
left r ts = record { reply = r; tables = ts }

-- a table has n rows
abbrev pub has_rows : ℕ → List ℕ → ℕ → Bool
has_rows width ws n = leb n (length ws / width)

-- ---- Waiting copies

unfoldable pub insert_fits : List ℕ → ℕ → List ℕ → Bool
insert_fits ws n row = leb waiting.width (length row) && ltb n (length ws / waiting.width)

unfoldable pub insert_of : List ℕ → ℕ → List ℕ → Left
insert_of ws n row = cond (insert_fits ws n row) (left (valued 0) (over waiting.form (waiting.insert_copy (waiting.read row) (waiting.copies ws n)) ws ∷ [])) (left not_fit (ws ∷ []))

unfoldable pub due_of : List ℕ → ℕ → ℕ → Told
due_of ws n until = cond (has_rows waiting.width ws n) (valued (length (front (waiting.on_time until) (waiting.copies ws n)))) not_fit

unfoldable pub drop_fits : List ℕ → ℕ → ℕ → Bool
drop_fits ws n k = has_rows waiting.width ws n && leb k n

unfoldable pub drop_of : List ℕ → ℕ → ℕ → Left
drop_of ws n k = cond (drop_fits ws n k) (left (valued 0) (over waiting.form (drop k (waiting.copies ws n)) ws ∷ [])) (left not_fit (ws ∷ []))

-- are n copies in range?
unfoldable pub copies_of : List ℕ → ℕ → Limits → Told
copies_of ws n l = cond (has_rows waiting.width ws n) (valued (bit (copies_near l ws n))) not_fit

-- ---- Marks

unfoldable pub has_of : List ℕ → ℕ → ℕ → Told
has_of seen count id = cond (leb count (length seen)) (valued (bit (found id (ids_of seen 0 count)))) not_fit

-- an id that stands there already is not added again
unfoldable pub add_of : List ℕ → ℕ → ℕ → Left
add_of seen count id =
    let ids = ids_of seen 0 count in
    cond (ltb count (length seen)) (cond (found id ids) (left (valued count) (seen ∷ [])) (left (valued (count + 1)) (put_words seen 0 (placed id ids) ∷ []))) (left not_fit (seen ∷ []))

unfoldable pub remove_of : List ℕ → ℕ → ℕ → Left
remove_of seen count id =
    let ids = removed id (ids_of seen 0 count) in
    cond (leb count (length seen)) (left (valued (length ids)) (put_words seen 0 ids ∷ [])) (left not_fit (seen ∷ []))

-- ---- Rings

abbrev pub ring_size : ℕ
ring_size = rings.head_width + rings.span

-- ring r is one of them, and its head is in range
unfoldable pub ring_fits : List ℕ → ℕ → ℕ → Bool
ring_fits ws n r = has_rows ring_size ws n && (ltb r n && sound_at rings.slots (rings.head_of r) ws)

unfoldable pub count_of : List ℕ → ℕ → ℕ → Told
count_of ws n r = cond (ring_fits ws n r) (valued (rings.count_of ws r)) not_fit

-- the tag of the k-th oldest, 0 where there is none; then one entry more
unfoldable pub turn_of : List ℕ → ℕ → ℕ → ℕ → Entry → Left
turn_of ws n r k e = cond (ring_fits ws n r) (left (valued (rings.entry_of n ws r k).tag) (rings.pushed n ws r e ∷ [])) (left not_fit (ws ∷ []))

-- are all rings in range?
unfoldable pub rings_of : List ℕ → ℕ → Limits → Told
rings_of ws n l = cond (has_rows ring_size ws n) (valued (bit (rings_near l n ws))) not_fit

-- ---- The log

-- a log of so many slots, its head in range
unfoldable pub log_fits : List ℕ → ℕ → Bool
log_fits l capacity = leb capacity most && (leb (log.size_of capacity) (length l) && log.sound_log capacity l)

unfoldable pub push_fits : List ℕ → ℕ → List ℕ → Bool
push_fits l capacity row = leb delivery.width (length row) && log_fits l capacity

unfoldable pub push_of : List ℕ → ℕ → List ℕ → Left
push_of l capacity row = cond (push_fits l capacity row) (left (valued 0) (log.pushed capacity l (delivery.read row) ∷ [])) (left not_fit (l ∷ []))

unfoldable pub drain_fits : List ℕ → ℕ → List ℕ → Bool
drain_fits l capacity out = log_fits l capacity && leb (capacity * delivery.width) (length out)

unfoldable pub drain_of : List ℕ → ℕ → List ℕ → Left
drain_of l capacity out =
    cond (drain_fits l capacity out) (left (valued (count_at 0 l)) (log.cleared_at l ∷ over delivery.form (log.records_of capacity l) out ∷ [])) (left not_fit (l ∷ out ∷ []))
