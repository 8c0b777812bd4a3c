-- Cells that fit so many bits, after each kind of write.
use mathlib.Core.Path.{◌≡◌, refl}
use Prim.Native.Nat.{ℕ, zero, suc, ◌+◌, ◌-◌, ◌*◌, ◌^◌, ◌≤◌, ◌<◌}
use native.Mathlib.Omega.{arith}
use native.Mathlib.Nat.{mod-lt}
use mathlib.Core.Bool.{Bool, true, false, cond}
use mathlib.Core.List.{List, [], ◌∷◌, ◌++◌}
use lib.Dec.{ltb}
use lib.Pow.{pow_pos}
use lib.ListN.{length, get_or, set, take, drop, replicate}
use borrow.Author.Tests.{ltb-true}
use Rattle.table_shift.specs.Shift.{put_words, closed}
use Rattle.table_rows.specs.Rows.{keep, flat, kept}
use Rattle.table_rows.specs.Lists.{Each}
use Rattle.table_rows.specs.Table.{Form, rows_of, over}
use Rattle.table_rows.proofs.Lists.{each_drop}
use Rattle.table_ring.specs.Ring.{slot_of, push_slot, next_at, written_at, pushed_at, sound_at, count_at, first_at}
use Rattle.table_ring.specs.declared.Push.{Push}
use Rattle.table_ring.proofs.Table.{true_sound}
use Rattle.table_delivery.specs.declared.Delivery.{Delivery}
use Rattle.table_delivery.specs.Delivery as delivery
use Rattle.table_log.specs.Log as log
use Rattle.spec_book.specs.Cells.{Fit}
use Rattle.spec_book.proofs.Each.{each_set, each_at, each_append, each_keep, each_replicate}

module _ {A : Type 0} (P : A → Type 0) where
  pub each_take : (n : ℕ) (l : List A) → Each P l → Each P (take n l)
  each_take zero l e = tt
  each_take (suc n) [] e = tt
  each_take (suc n) (a ∷ l) e = (e.0, each_take n l e.1)

module _ (bits : ℕ) where
  abbrev In : ℕ → Type 0
  In v = v < 2 ^ bits

  pub cell_fits : (l : List ℕ) (i : ℕ) → Fit bits l → get_or l i 0 < 2 ^ bits
  cell_fits l i e = each_at In l i 0 e (pow_pos bits)

  pub fit_put : (ws : List ℕ) (b : ℕ) (v : List ℕ) → Fit bits ws → Fit bits v → Fit bits (put_words ws b v)
  unfolding put_words
  fit_put ws b v e f = each_append In (take b ws) (v ++ drop (b + length v) ws) (each_take In b ws e) (each_append In v (drop (b + length v) ws) f (each_drop In (b + length v) ws e))

  pub fit_closed : (ws : List ℕ) (a z by : ℕ) → Fit bits ws → Fit bits (closed ws a z by)
  unfolding closed
  fit_closed ws a z by e =
      each_append In (take (a - by) ws) (take (z - a) (drop a ws) ++ drop (z - by) ws) (each_take In (a - by) ws e)
      (each_append In (take (z - a) (drop a ws)) (drop (z - by) ws) (each_take In (z - a) (drop a ws) (each_drop In a ws e)) (each_drop In (z - by) ws e))

  pub fit_flat : {R : Type 0} (words : R → List ℕ) (rs : List R) → Each (λ (r : R). Fit bits (words r)) rs → Fit bits (flat words rs)
  fit_flat words [] e = tt
  fit_flat words (r ∷ rs) e = each_append In (words r) (flat words rs) e.0 (fit_flat words rs e.1)

  -- a row whose words are cells, read anywhere
  module _ {R : Type 0} (f : Form R) (reads : (l : List ℕ) → Fit bits l → Fit bits (f.words (f.read l))) where
    pub rows_fit : (n : ℕ) (ws : List ℕ) → Fit bits ws → Each (λ (r : R). Fit bits (f.words r)) (rows_of f ws n)
    rows_fit zero ws e = tt
    rows_fit (suc n) ws e = (reads ws e, rows_fit n (drop f.width ws) (each_drop In f.width ws e))

    pub fit_over : (rs : List R) (ws : List ℕ) → Each (λ (r : R). Fit bits (f.words r)) rs → Fit bits ws → Fit bits (over f rs ws)
    unfolding over
    fit_over rs ws e g = each_append In (flat f.words rs) (drop (length rs * f.width) ws) (fit_flat f.words rs e) (each_drop In (length rs * f.width) ws g)

    pub fit_kept : (q : R → Bool) (ws : List ℕ) (n : ℕ) → Fit bits ws → Fit bits (kept f.width f.read f.words q ws n)
    unfolding kept
    fit_kept q ws n e =
        let l = keep q (rows_of f ws n) in
        each_append In (flat f.words l) (drop (length l * f.width) ws) (fit_flat f.words l (each_keep (λ (r : R). Fit bits (f.words r)) q (rows_of f ws n) (rows_fit n ws e))) (each_drop In (length l * f.width) ws e)

-- ---- Rings and log

-- the head of a ring after a push
slot_fits : (m first : ℕ) → 1 ≤ m → m ≤ 4096 → first < 2 ^ 64 → slot_of m first 1 < 2 ^ 64
unfolding slot_of
slot_fits m first a b h = go (ltb (first + 1) m) refl
  where
    go : (x : Bool) → ltb (first + 1) m ≡ x → cond x (first + 1) (first + 1 - m) < 2 ^ 64
    go true p = omega (arith, ltb-true (first + 1) m p)
    go false p = omega arith

push_fits_lem : (m count first : ℕ) → 1 ≤ m → m ≤ 4096 → count < 2 ^ 64 → first < 2 ^ 64 → ((push_slot m count first).count < 2 ^ 64) × ((push_slot m count first).first < 2 ^ 64)
unfolding push_slot
push_fits_lem m count first a b c f = go (ltb count m) refl
  where
    P : Bool → Push
    P x = cond x (record { slot = slot_of m first count; count = count + 1; first = first }) (record { slot = first; count = count; first = slot_of m first 1 })

    go : (x : Bool) → ltb count m ≡ x → ((P x).count < 2 ^ 64) × ((P x).first < 2 ^ 64)
    go true p = (omega (arith, ltb-true count m p), f)
    go false p = (c, slot_fits m first a b f)

module _ {R : Type 0} (f : Form R) (m h base : ℕ) (most : m ≤ 4096) where
  pub fit_written : (ws : List ℕ) (e : R) → 1 ≤ m → Fit 64 ws → Fit 64 (f.words e) → Fit 64 (written_at f m h base ws e)
  fit_written ws e some g w =
      let p = push_fits_lem m (count_at h ws) (first_at h ws) some most (cell_fits 64 ws h g) (cell_fits 64 ws (h + 1) g) in
      fit_put 64 (put_words ws (base + (next_at f m h base ws).slot * f.width) (f.words e)) h ((next_at f m h base ws).count ∷ (next_at f m h base ws).first ∷ [])
      (fit_put 64 ws (base + (next_at f m h base ws).slot * f.width) (f.words e) g w) (p.0, (p.1, tt))

  pub fit_pushed : (ws : List ℕ) (e : R) → Fit 64 ws → Fit 64 (f.words e) → Fit 64 (pushed_at f m h base ws e)
  unfolding pushed_at
  fit_pushed ws e g w = go (sound_at m h ws) refl
    where
      go : (b : Bool) → sound_at m h ws ≡ b → Fit 64 (cond b (written_at f m h base ws e) ws)
      go true p = let k = true_sound m h ws p in fit_written ws e (omega (arith, k.begun)) g w
      go false p = g

wrap_fits : (n : ℕ) → log.wrap n < 2 ^ 64
wrap_fits n = mod-lt n (pow_pos 64)

module _ (m : ℕ) (most : m ≤ 4096) where
  pub fit_logged : (ws : List ℕ) (d : Delivery) → Fit 64 ws → Fit 64 (delivery.words d) → Fit 64 (log.pushed m ws d)
  unfolding log.pushed log.tallied_at log.noted_at
  fit_logged ws d g w = go (sound_at m 0 ws) refl
    where
      tallied : Fit 64 (log.tallied_at ws d.class d.wire)
      tallied = one (ltb d.class log.classes)
        where
          one : (b : Bool) → Fit 64 (cond b (put_words ws (log.tallies_at + d.class * log.tally_width) ((log.tally_form).words (log.tallied (log.tally_at ws d.class) d.wire))) ws)
          one true = fit_put 64 ws (log.tallies_at + d.class * log.tally_width) _ g (wrap_fits _, (wrap_fits _, tt))
          one false = g

      noted : (l : List ℕ) → Fit 64 l → Fit 64 (log.noted_at m l)
      noted l k = one (ltb (count_at 0 l) m)
        where
          one : (b : Bool) → Fit 64 (cond b l (set l log.forced_at (log.wrap (get_or l log.forced_at 0 + 1))))
          one true = k
          one false = each_set (λ (v : ℕ). v < 2 ^ 64) l log.forced_at _ k (wrap_fits _)

      go : (b : Bool) → sound_at m 0 ws ≡ b → Fit 64 (cond b (written_at delivery.form m 0 log.records_at (log.noted_at m (log.tallied_at ws d.class d.wire)) d) ws)
      go true p = let k = true_sound m 0 ws p in fit_written delivery.form m 0 log.records_at most (log.noted_at m (log.tallied_at ws d.class d.wire)) d (omega (arith, k.begun)) (noted (log.tallied_at ws d.class d.wire) tallied) w
      go false p = g

  pub fit_cleared : (ws : List ℕ) → Fit 64 ws → Fit 64 (log.cleared_at ws)
  unfolding log.cleared_at
  fit_cleared ws g = each_append (λ (v : ℕ). v < 2 ^ 64) (replicate log.records_at 0) (drop log.records_at ws) (each_replicate (λ (v : ℕ). v < 2 ^ 64) log.records_at 0 (pow_pos 64)) (each_drop (λ (v : ℕ). v < 2 ^ 64) log.records_at ws g)
