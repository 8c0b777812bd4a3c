-- The tests of a row, and the turns of each scan: i rows have passed. Assumes nothing.
use mathlib.Core.Path.{◌≡◌, refl, sym, ap, ◌∙◌}
use mathlib.Core.List.{List, [], ◌∷◌}
use mathlib.Core.Bool.{Bool, true, false, ◌&&◌, false≢true}
use Prim.Native.Nat.{ℕ, zero, suc, ◌+◌, ◌*◌, ◌≤◌, ◌<◌}
use native.Mathlib.Nat.{add-mul, mul-le-mul_right}
use native.Mathlib.Omega.{arith}
use lib.Dec.{ltb, leb}
use lib.ListN.{length, get_or, take}
use borrow.Author.Tests.{ltb-true, leb-true}
use Rattle.table_rows.specs.Rows.{all_of}
use Rattle.table_rows.specs.Lists.{up_to}
use Rattle.table_rows.proofs.Rows.{length_rows}
use Rattle.table_rows.proofs.Lists.{length_up_to, get_d_up_to}
use Rattle.table_rows.proofs.Scans.{pass_more, pass_stop, pass_all, pass_at}
use Rattle.table_delivery.specs.declared.Delivery.{Delivery}
use Rattle.table_delivery.specs.Delivery as delivery
use Rattle.table_waiting.specs.declared.Copy.{Copy}
use Rattle.table_waiting.specs.Waiting as waiting
use Rattle.table_ring.specs.Ring.{sound_at, count_at, first_at, slot_at}
use Rattle.table_ring.proofs.Laws.{length_from}
use Rattle.table_ring.proofs.Table.{true_sound}
use Rattle.table_rings.specs.declared.Entry.{Entry}
use Rattle.table_rings.specs.Rings.{slots, head_of, base_of, count_of, none, form, SoundRing, entries, entry_of}
use Rattle.table_rings.proofs.Laws.{get_oldest}
use Rattle.table_log.specs.Log.{records_at, records_of, sound_log, SoundLog}
use Rattle.table_log.proofs.Writing.{sound_log_lem}
use Rattle.table_scan.specs.declared.Limits.{Limits}
use Rattle.table_scan.specs.Scan.{near, near_entry, copies_near, log_near, ring_near, rings_near, column}

-- ONE SCAN for every table: `at` gives the i-th of n rows
module _ {R : Type 0} (q : R → Bool) (l : List R) (n : ℕ) (long : length l ≡ n) where
  abbrev pub Passed : ℕ → Type 0
  Passed i = all_of q (take i l) ≡ true

  pub goes_on : (i : ℕ) (r : R) (b : Bool) → i < n → get_or l i r ≡ r → b ≡ q r → b ≡ true → Passed i → Passed (i + 1)
  goes_on i r b h e t y p = pass_more q r l i (omega arith) (ap q e ∙ sym t ∙ y) p

  pub stops : (i : ℕ) (r : R) (b : Bool) → i < n → get_or l i r ≡ r → b ≡ q r → b ≡ false → false ≡ all_of q l
  stops i r b h e t y = pass_stop q r l i (omega arith) (ap q e ∙ sym t ∙ y)

  pub ends : (i : ℕ) (d : R) → n ≤ i → Passed i → true ≡ all_of q l
  ends i d h p = pass_all q d l i (omega arith) p

-- the rows of each table
pub copies_long : (ws : List ℕ) (n : ℕ) → length (waiting.copies ws n) ≡ n
copies_long ws n = length_rows waiting.width waiting.read n ws

pub records_long : (m : ℕ) (ws : List ℕ) → length (records_of m ws) ≡ count_at 0 ws
records_long m ws = length_from (slot_at delivery.form m 0 records_at ws) m (first_at 0 ws) 0 (count_at 0 ws)

pub entries_long : (rings : ℕ) (ws : List ℕ) (r : ℕ) → length (entries rings ws r) ≡ count_of ws r
entries_long rings ws r = length_from (slot_at form slots (head_of r) (base_of rings r) ws) slots (first_at (head_of r) ws) 0 (count_of ws r)

pub entry_row : (rings : ℕ) (ws : List ℕ) (r k : ℕ) (e : Entry) → SoundRing ws r → k < count_of ws r → e ≡ entry_of rings ws r k → get_or (entries rings ws r) k e ≡ e
entry_row rings ws r k e s h is = default_free (entries rings ws r) k e none (let n = entries_long rings ws r in omega arith) ∙ sym (is ∙ get_oldest rings ws r k s)
  where
    default_free : (l : List Entry) (i : ℕ) (a b : Entry) → i < length l → get_or l i a ≡ get_or l i b
    default_free [] i a b q = absurd (omega arith)
    default_free (x ∷ l) zero a b q = refl
    default_free (x ∷ l) (suc i) a b q = default_free l i a b (omega arith)

-- the ways out of `log_near` and `ring_near`
pub log_out : (l : Limits) (m : ℕ) (ws : List ℕ) → sound_log m ws ≡ false → false ≡ log_near l m ws
unfolding log_near
log_out l m ws h = sym (rw h)

pub log_in : (l : Limits) (m : ℕ) (ws : List ℕ) → sound_log m ws ≡ true → all_of (near l) (records_of m ws) ≡ log_near l m ws
unfolding log_near
log_in l m ws h = sym (rw h)

pub ring_out : (l : Limits) (rings : ℕ) (ws : List ℕ) (r : ℕ) → sound_at slots (head_of r) ws ≡ false → false ≡ ring_near l rings ws r
unfolding ring_near
ring_out l rings ws r h = sym (ap (λ (b : Bool). b && all_of (near_entry l) (entries rings ws r)) h)

pub ring_in : (l : Limits) (rings : ℕ) (ws : List ℕ) (r : ℕ) → sound_at slots (head_of r) ws ≡ true → all_of (near_entry l) (entries rings ws r) ≡ ring_near l rings ws r
unfolding ring_near
ring_in l rings ws r h = sym (ap (λ (b : Bool). b && all_of (near_entry l) (entries rings ws r)) h)

-- numbers below n, and a column
pub number_row : (n i d : ℕ) → i < n → get_or (up_to n (λ (k : ℕ). k)) i d ≡ i
number_row n i d h = get_d_up_to n (λ (k : ℕ). k) i d h

pub numbers_long : (n : ℕ) → length (up_to n (λ (k : ℕ). k)) ≡ n
numbers_long n = length_up_to n (λ (k : ℕ). k)

module _ (ws : List ℕ) (start stride n : ℕ) where
  pub column_long : length (column ws start stride n) ≡ n
  column_long = length_up_to n (λ i. get_or ws (start + i * stride) 0)

  pub column_row : (i at : ℕ) → i < n → at ≡ start + i * stride → get_or (column ws start stride n) i (get_or ws at 0) ≡ get_or ws at 0
  column_row i at h e = get_d_up_to n (λ k. get_or ws (start + k * stride) 0) i (get_or ws at 0) h ∙ ap (λ (k : ℕ). get_or ws k 0) (sym e)

  pub column_in : (i at : ℕ) → i < n → at ≡ start + i * stride → 1 ≤ stride → start + n * stride ≤ length ws → at + stride ≤ length ws
  column_in i at h e s room = let u : (i + 1) * stride ≤ n * stride = mul-le-mul_right stride (omega arith) in omega (arith, add-mul i 1 stride)

-- WHAT A TEST THAT PASSED SAYS
both : (a b : Bool) → (a && b) ≡ true → (a ≡ true) × (b ≡ true)
both true b e = (refl, e)
both false b e = absurd (false≢true e)

pub record Near (l : Limits) (d : Delivery) : Type 0 where
  pub from : d.from < l.hosts
  pub to : d.to < l.hosts
  pub kind : d.kind < l.kinds
  pub class : d.class < l.classes

pub near_says : (l : Limits) (d : Delivery) → near l d ≡ true → Near l d
unfolding near
near_says l d e =
    let a = both (ltb d.from l.hosts) (ltb d.to l.hosts && (ltb d.kind l.kinds && ltb d.class l.classes)) e in
    let b = both (ltb d.to l.hosts) (ltb d.kind l.kinds && ltb d.class l.classes) a.1 in
    let c = both (ltb d.kind l.kinds) (ltb d.class l.classes) b.1 in
    record { from = ltb-true _ _ a.0; to = ltb-true _ _ b.0; kind = ltb-true _ _ c.0; class = ltb-true _ _ c.1 }

pub entry_says : (l : Limits) (e : Entry) → near_entry l e ≡ true → (e.class < l.classes) × (e.wire ≤ l.wire)
unfolding near_entry
entry_says l e h = let a = both (ltb e.class l.classes) (leb e.wire l.wire) h in (ltb-true _ _ a.0, leb-true _ _ a.1)

pub copies_say : (l : Limits) (ws : List ℕ) (n i : ℕ) (c : Copy) → copies_near l ws n ≡ true → i < n → Near l (get_or (waiting.copies ws n) i c).delivery
unfolding copies_near
copies_say l ws n i c e h = near_says l (get_or (waiting.copies ws n) i c).delivery (pass_at (λ (x : Copy). near l x.delivery) c (waiting.copies ws n) i (let q = copies_long ws n in omega arith) e)

pub log_says : (l : Limits) (m : ℕ) (ws : List ℕ) → log_near l m ws ≡ true → SoundLog m ws × (all_of (near l) (records_of m ws) ≡ true)
unfolding log_near
log_says l m ws e = let a = both (sound_log m ws) (all_of (near l) (records_of m ws)) e in (sound_log_lem m ws a.0, a.1)

pub rings_say_lem : (l : Limits) (rings : ℕ) (ws : List ℕ) (r : ℕ) → rings_near l rings ws ≡ true → r < rings → SoundRing ws r × (all_of (near_entry l) (entries rings ws r) ≡ true)
unfolding rings_near ring_near
rings_say_lem l rings ws r e h =
    let at : get_or (up_to rings (λ (k : ℕ). k)) r r ≡ r = number_row rings r r h in
    let p = pass_at (ring_near l rings ws) r (up_to rings (λ (k : ℕ). k)) r (let q = numbers_long rings in omega arith) e in
    let a = both (sound_at slots (head_of r) ws) (all_of (near_entry l) (entries rings ws r)) (ap (ring_near l rings ws) (sym at) ∙ p) in
    (true_sound slots (head_of r) ws a.0, a.1)
