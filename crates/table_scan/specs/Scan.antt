-- Document 01, question 1: the range tests over the rows in use.
use Rattle.std.specs.Prelude.{List, Bool, ◌&&◌, ℕ, ◌+◌, ◌*◌, ltb, leb, get_or}
use Rattle.table_rows.specs.Rows.{all_of}
use Rattle.table_rows.specs.Lists.{up_to}
use Rattle.table_delivery.specs.declared.Delivery.{Delivery}
use Rattle.table_waiting.specs.declared.Copy.{Copy}
use Rattle.table_waiting.specs.Waiting.{copies}
use Rattle.table_ring.specs.Ring.{sound_at}
use Rattle.table_rings.specs.declared.Entry.{Entry}
use Rattle.table_rings.specs.Rings.{slots, head_of, entries}
use Rattle.table_log.specs.Log.{sound_log, records_of}
use Rattle.table_scan.specs.declared.Limits.{Limits}

-- hosts, type and class exist
unfoldable pub near : Limits → Delivery → Bool
near l d = ltb d.from l.hosts && (ltb d.to l.hosts && (ltb d.kind l.kinds && ltb d.class l.classes))

-- the class exists, and the wire is no longer than it may be
unfoldable pub near_entry : Limits → Entry → Bool
near_entry l e = ltb e.class l.classes && leb e.wire l.wire

unfoldable pub copies_near : Limits → List ℕ → ℕ → Bool
copies_near l ws n = all_of (λ (c : Copy). near l c.delivery) (copies ws n)

unfoldable pub log_near : Limits → ℕ → List ℕ → Bool
log_near l capacity ws = sound_log capacity ws && all_of (near l) (records_of capacity ws)

unfoldable pub ring_near : Limits → ℕ → List ℕ → ℕ → Bool
ring_near l rings ws r = sound_at slots (head_of r) ws && all_of (near_entry l) (entries rings ws r)

unfoldable pub rings_near : Limits → ℕ → List ℕ → Bool
rings_near l rings ws = all_of (ring_near l rings ws) (up_to rings (λ r. r))

-- n words, `stride` apart from `start` on
abbrev pub column : List ℕ → ℕ → ℕ → ℕ → List ℕ
column ws start stride n = up_to n (λ i. get_or ws (start + i * stride) 0)

unfoldable pub column_within : List ℕ → ℕ → ℕ → ℕ → ℕ → Bool
column_within ws start stride n limit = all_of (λ (c : ℕ). leb c limit) (column ws start stride n)
