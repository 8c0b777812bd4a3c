-- What each call of a table answers and leaves, once it was made or refused. Assumes nothing.
use mathlib.Core.Path.{◌≡◌, ap, ◌∙◌}
use mathlib.Core.Bool.{Bool, true, false, cond, not}
use mathlib.Core.List.{List, [], ◌∷◌}
use Prim.Native.Nat.{ℕ, ◌+◌, ◌*◌, ◌/◌, ◌≤◌}
use lib.Dec.{leb, ltb}
use lib.ListN.{length}
use borrow.Author.Tests.{leb-true, ltb-true}
use Rattle.table_rows.specs.Table.{over}
use Rattle.table_delivery.specs.Delivery as delivery
use Rattle.table_delivery.specs.declared.Delivery.{Delivery}
use Rattle.table_waiting.specs.Waiting as waiting
use Rattle.table_waiting.specs.declared.Copy.{Copy}
use Rattle.table_ring.specs.Ring.{most, count_at}
use Rattle.table_rings.specs.Rings as rings
use Rattle.table_log.specs.Log as log
use Rattle.bench_tables.specs.declared.Told.{Told}
use Rattle.bench_tables.specs.Answers.{valued, not_fit, left, has_rows, insert_fits, drop_fits, ring_size, ring_fits, log_fits, push_fits, drain_fits, drain_of}
use Rattle.bench_tables.proofs.Tests.{both, is_no, is_yes, yes, no, rows_fit, one_more}

-- a test that the code asked by a call t: the call was not made, or made
pub refused : {A : Type 0} (t b : Bool) (r x y : A) → t ≡ b → not t ≡ true → r ≡ y → r ≡ cond b x y
refused t b r x y e h q = no b r x y (is_no t b e h) q

pub made : {A : Type 0} (t b : Bool) (r x y : A) → t ≡ b → not t ≡ false → r ≡ x → r ≡ cond b x y
made t b r x y e h q = yes b r x y (is_yes t b e h) q

-- the reply that nothing fits, with the tables as they are
pub as_found : (r : Told) (ts : List (List ℕ)) → r ≡ not_fit → left r ts ≡ left not_fit ts
as_found r ts e = ap (λ (t : Told). left t ts) e

-- a reply and one table at exit
pub one_left : (r s : Told) (ws vs : List ℕ) → r ≡ s → ws ≡ vs → left r (ws ∷ []) ≡ left s (vs ∷ [])
one_left r s ws vs e h = λ j. left (e j) (h j ∷ [])

-- ---- Waiting copies

module _ (ws : List ℕ) (n : ℕ) where
  pub insert_room : (t : Bool) (row : List ℕ) → t ≡ insert_fits ws n row → not t ≡ false → (waiting.width ≤ length row) × ((n + 1) * waiting.width ≤ length ws)
  unfolding insert_fits
  insert_room t row e h =
      let q = both (leb waiting.width (length row)) (ltb n (length ws / waiting.width)) (is_yes t _ e h) in
      (leb-true waiting.width (length row) q.0, one_more (length ws) n waiting.width q.1)

  pub inserted : (row : List ℕ) (c : Copy) (vs : List ℕ) → c ≡ waiting.read row → vs ≡ over waiting.form (waiting.insert_copy c (waiting.copies ws n)) ws
      → vs ≡ over waiting.form (waiting.insert_copy (waiting.read row) (waiting.copies ws n)) ws
  inserted row c vs e h = h ∙ ap (λ (x : Copy). over waiting.form (waiting.insert_copy x (waiting.copies ws n)) ws) e

  pub copies_room : (t : Bool) → t ≡ has_rows waiting.width ws n → not t ≡ false → n * waiting.width ≤ length ws
  copies_room t e h = rows_fit (length ws) n waiting.width (is_yes t _ e h)

  pub drop_room : (t : Bool) (k : ℕ) → t ≡ drop_fits ws n k → not t ≡ false → (k ≤ n) × (n * waiting.width ≤ length ws)
  unfolding drop_fits
  drop_room t k e h =
      let q = both (has_rows waiting.width ws n) (leb k n) (is_yes t _ e h) in
      (leb-true k n q.1, rows_fit (length ws) n waiting.width q.0)

-- ---- Rings

module _ (ws : List ℕ) (n : ℕ) where
  pub rings_room : (t : Bool) → t ≡ has_rows ring_size ws n → not t ≡ false → n * ring_size ≤ length ws
  rings_room t e h = rows_fit (length ws) n ring_size (is_yes t _ e h)

  pub ring_room : (t : Bool) (r : ℕ) → t ≡ ring_fits ws n r → not t ≡ false → rings.Fits n r ws
  unfolding ring_fits
  ring_room t r e h =
      let q = both (has_rows ring_size ws n) _ (is_yes t _ e h) in
      record { there = ltb-true r n (both (ltb r n) _ q.1).0; room = rows_fit (length ws) n ring_size q.0 }

-- ---- The log

module _ (l : List ℕ) (capacity : ℕ) where
  pub log_room : log_fits l capacity ≡ true → (capacity ≤ most) × (log.size_of capacity ≤ length l) × (log.sound_log capacity l ≡ true)
  unfolding log_fits
  log_room h =
      let q = both (leb capacity most) _ h in
      let s = both (leb (log.size_of capacity) (length l)) (log.sound_log capacity l) q.1 in
      (leb-true capacity most q.0, leb-true (log.size_of capacity) (length l) s.0, s.1)

  pub push_room : (t : Bool) (row : List ℕ) → t ≡ push_fits l capacity row → not t ≡ false → (delivery.width ≤ length row) × ((capacity ≤ most) × (log.size_of capacity ≤ length l))
  unfolding push_fits
  push_room t row e h =
      let q = both (leb delivery.width (length row)) (log_fits l capacity) (is_yes t _ e h) in
      let r = log_room q.1 in
      (leb-true delivery.width (length row) q.0, (r.0, r.1))

  pub pushed : (row : List ℕ) (d : Delivery) (vs : List ℕ) → d ≡ delivery.read row → vs ≡ log.pushed capacity l d → vs ≡ log.pushed capacity l (delivery.read row)
  pushed row d vs e h = h ∙ ap (log.pushed capacity l) e

  module _ (t : Bool) (out : List ℕ) (e : t ≡ drain_fits l capacity out) (h : not t ≡ false) where
    fits : (log_fits l capacity ≡ true) × (leb (capacity * delivery.width) (length out) ≡ true)
    unfolding drain_fits
    fits = both (log_fits l capacity) (leb (capacity * delivery.width) (length out)) (is_yes t _ e h)

    pub drain_room : (capacity ≤ most) × (log.size_of capacity ≤ length l) × (capacity * delivery.width ≤ length out)
    drain_room = let r = log_room fits.0 in (r.0, r.1, leb-true (capacity * delivery.width) (length out) fits.1)

    -- the head is in range, so the log was drained
    pub drained : (r : Told) (k : ℕ) (l' out' : List ℕ) → r ≡ valued k → k ≡ cond (log.sound_log capacity l) (count_at 0 l) 0
        → out' ≡ cond (log.sound_log capacity l) (over delivery.form (log.records_of capacity l) out) out → l' ≡ cond (log.sound_log capacity l) (log.cleared_at l) l
        → left r (l' ∷ out' ∷ []) ≡ drain_of l capacity out
    unfolding drain_of
    drained r k l' out' er ek eo el =
        let sound : log.sound_log capacity l ≡ true = (log_room fits.0).2 in
        let n : k ≡ count_at 0 l = ek ∙ ap (λ (b : Bool). cond b (count_at 0 l) 0) sound in
        let a : l' ≡ log.cleared_at l = el ∙ ap (λ (b : Bool). cond b (log.cleared_at l) l) sound in
        let o : out' ≡ over delivery.form (log.records_of capacity l) out = eo ∙ ap (λ (b : Bool). cond b (over delivery.form (log.records_of capacity l) out) out) sound in
        made t (drain_fits l capacity out) _ _ _ e h (λ j. left ((er ∙ ap valued n) j) (a j ∷ o j ∷ []))
