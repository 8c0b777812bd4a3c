-- The pass, table by table, is the network's flush: decisions are taken from the tables before it, and each write is one of a table of its own. Assumes nothing.
use mathlib.Core.Path.{◌≡◌, refl, sym, ap, ◌∙◌}
use mathlib.Core.Bool.{Bool, true, false, cond, ◌&&◌}
use mathlib.Core.List.{List, [], ◌∷◌, ◌++◌}
use Prim.Native.Nat.{ℕ, suc, ◌-◌, ◌≤◌, ◌<◌}
use native.Mathlib.Omega.{arith}
use lib.ListN.{length, set, drop, take, length-drop}
use Rattle.table_rows.specs.Rows.{flat}
use Rattle.table_rows.specs.Lists.{Each, front, behind}
use Rattle.table_rows.specs.Table.{over}
use Rattle.table_rows.proofs.Rows.{take_rows, length_rows}
use Rattle.table_rows.proofs.Lists.{take_front, drop_front, get_d_up_to}
use Rattle.table_rows.proofs.Table.{length_words}
use Rattle.table_shift.specs.Shift.{put_words}
use Rattle.table_marks.specs.Marks.{ids_of, removed}
use Rattle.table_log.specs.Log as log
use Rattle.table_waiting.specs.declared.Copy.{Copy}
use Rattle.table_waiting.specs.Waiting as waiting
use Rattle.table_waiting.specs.Waiting.{copies, on_time}
use Rattle.spec_network.specs.Opening.{Sizes}
use Rattle.spec_network.specs.Live.{Live, is_original, ids_at}
use Rattle.spec_network.specs.Flush.{stops, lands, rows_of, served, later}
use Rattle.spec_network.specs.Tables.{Tables, cell, live, ids_start, waiting_at}
use Rattle.spec_network.specs.Writes.{row_words, set_seen, set_log, set_waiting, set_net, marks_t, clear_t, record_all_t, flush_t}
use Rattle.call_flush_pass.specs.Pass.{unmarked, cleared_one, cleared_by, cleared, recorded, row_form, written}
use Rattle.call_flush_pass.proofs.Passing.{exact}

-- ---- The marks

ids_at_lem : (z : Sizes) (T : Tables) (t : ℕ) → t < z.tills → ids_at (live z T) t ≡ ids_of T.seen (ids_start z t) (cell T.seen t)
ids_at_lem z T t h = get_d_up_to z.tills (λ k. ids_of T.seen (ids_start z k) (cell T.seen k)) t [] h

-- one copy
clear_one : (z : Sizes) (s : Live) (c : Copy) (T : Tables) → c.delivery.to < z.tills
    → cond (stops s c && is_original c) (marks_t z T c.delivery.to (removed c.id (ids_at (live z T) c.delivery.to))) T ≡ set_seen T (cleared_by z.tills z.seen_slots s c T.seen)
unfolding cleared_by cleared_one unmarked
clear_one z s c T h = go (stops s c) (is_original c)
  where
    t : ℕ
    t = c.delivery.to

    go : (x y : Bool) → cond (x && y) (marks_t z T c.delivery.to (removed c.id (ids_at (live z T) c.delivery.to))) T
        ≡ set_seen T (cond x (cond y (set
        (put_words T.seen (ids_start z c.delivery.to) (removed c.id (ids_of T.seen (ids_start z c.delivery.to) (cell T.seen c.delivery.to)))) c.delivery.to
        (length (removed c.id (ids_of T.seen (ids_start z c.delivery.to) (cell T.seen c.delivery.to))))) T.seen) T.seen)
    go true true = ap (λ (ids : List ℕ). marks_t z T c.delivery.to (removed c.id ids)) (ids_at_lem z T c.delivery.to h)
    go true false = refl
    go false y = refl

pub clears : (z : Sizes) (s : Live) (cs : List Copy) (T : Tables) → Each (λ (c : Copy). c.delivery.to < z.tills) cs
    → clear_t z s cs T ≡ set_seen T (cleared z.tills z.seen_slots s cs T.seen)
unfolding cleared
clears z s [] T h = refl
clears z s (c ∷ cs) T h =
    ap (clear_t z s cs) (clear_one z s c T h.0)
    ∙ clears z s cs (set_seen T (cleared_by z.tills z.seen_slots s c T.seen)) h.1

-- ---- The log

pub records : (z : Sizes) (cs : List Copy) (T : Tables) → record_all_t z T cs ≡ set_log T (recorded z.log_slots cs T.log)
unfolding recorded
records z [] T = refl
records z (c ∷ cs) T = records z cs (set_log T (log.pushed z.log_slots T.log c.delivery))

-- ---- The due copies are the first k

module _ (w : List ℕ) (n now k : ℕ) (e : k ≡ length (front (on_time now) (copies w n))) where
  at_most : {A : Type 0} (q : A → Bool) (l : List A) → length (front q l) ≤ length l
  at_most q [] = omega arith
  at_most q (a ∷ l) = go (q a) (at_most q l)
    where
      go : (b : Bool) → length (front q l) ≤ length l → length (cond b (a ∷ front q l) []) ≤ suc (length l)
      go true h = omega arith
      go false h = omega arith

  pub due_within : k ≤ n
  due_within = omega (arith, e, at_most (on_time now) (copies w n), length_rows waiting.width waiting.read n w)

  pub due_first : front (on_time now) (copies w n) ≡ copies w k
  due_first = sym (take_front (on_time now) (copies w n)) ∙ ap (λ (i : ℕ). take i (copies w n)) (sym e) ∙ take_rows waiting.width waiting.read w n k due_within

  pub later_rest : behind (on_time now) (copies w n) ≡ drop k (copies w n)
  later_rest = sym (drop_front (on_time now) (copies w n)) ∙ ap (λ (i : ℕ). drop i (copies w n)) (sym e)

  pub later_count : length (behind (on_time now) (copies w n)) ≡ n - k
  later_count = ap length later_rest ∙ length-drop k (copies w n) ∙ ap (λ (i : ℕ). i - k) (length_rows waiting.width waiting.read n w)

-- ---- The output

pub written_front : (s : Live) (cs : List Copy) (out : List ℕ) → written s cs out ≡ flat row_words (rows_of s cs) ++ drop (length (flat row_words (rows_of s cs))) out
unfolding written over
written_front s cs out = ap (λ (i : ℕ). flat row_words (rows_of s cs) ++ drop i out) (sym (length_words row_form exact (rows_of s cs)))

-- ---- All tables

module _ (z : Sizes) (T : Tables) (now rows k : ℕ) (e : k ≡ length (served now rows (live z T))) (near : Each (λ (c : Copy). c.delivery.to < z.tills) (copies T.waiting k)) where
  n : ℕ
  n = cell T.net waiting_at

  pub flush_tables : flush_t z T now rows
      ≡ set_log (set_waiting (set_net (set_seen T (cleared z.tills z.seen_slots (live z T) (copies T.waiting k) T.seen))
      (set T.net waiting_at (cell T.net waiting_at - k))) (over waiting.form (drop k (copies T.waiting (cell T.net waiting_at))) T.waiting))
      (recorded z.log_slots (lands (live z T) (copies T.waiting k)) T.log)
  flush_tables =
      let N : ℕ = cell T.net waiting_at in
      let s = live z T in
      let first : served now rows s ≡ copies T.waiting k = due_first T.waiting N now k e in
      (λ j. let T₁ = clear_t z s (first j) T in record_all_t z
      (set_waiting (set_net T₁ (set T₁.net waiting_at (length (later now rows s)))) (over waiting.form (later now rows s) T₁.waiting)) (lands s (first j)))
      ∙ ap (λ (T₁ : Tables). record_all_t z
      (set_waiting (set_net T₁ (set T₁.net waiting_at (length (later now rows s)))) (over waiting.form (later now rows s) T₁.waiting))
      (lands s (copies T.waiting k))) (clears z s (copies T.waiting k) T near)
      ∙ (λ j. record_all_t z (set_waiting
      (set_net (set_seen T (cleared z.tills z.seen_slots s (copies T.waiting k) T.seen)) (set T.net waiting_at (later_count T.waiting N now k e j)))
      (over waiting.form (later_rest T.waiting N now k e j) T.waiting)) (lands s (copies T.waiting k)))
      ∙ records z (lands s (copies T.waiting k)) _
