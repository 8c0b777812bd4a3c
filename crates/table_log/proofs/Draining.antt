-- A drain: the records copied out one by one, and the head cleared. Assumes nothing.
use Rattle.std.proofs.Common.{◌≡◌, ℕ, suc, ◌+◌, ◌*◌, ◌≤◌, Bool, cond, List, [], ◌∷◌, ◌++◌, length, drop, sym, refl, ap, ◌∙◌, zero-mul, arith}
use Rattle.table_shift.specs.Shift.{put_words}
use Rattle.table_rows.specs.Table.{over}
use Rattle.table_rows.proofs.Table.{over_more}
use Rattle.table_ring.specs.Ring.{slot_of, ring_from, slot_at, first_at}
use Rattle.table_ring.proofs.Laws.{from_snoc, length_from}
use Rattle.table_delivery.specs.declared.Delivery.{Delivery}
use Rattle.table_delivery.specs.Delivery as delivery
use Rattle.table_delivery.proofs.Laws as delivery-laws
use Rattle.table_log.specs.Log.{records_at, record_at, log_of, empty_log, SoundLog, sound_log, cleared_at}

-- i records are copied
module _ (m : ℕ) (log out : List ℕ) where
  abbrev pub first_ones : ℕ → List Delivery
  first_ones i = ring_from (slot_at delivery.form m 0 records_at log) m (first_at 0 log) 0 i

  pub copied_none : out ≡ over delivery.form (first_ones 0) out
  unfolding over
  copied_none = sym (ap (λ (k : ℕ). drop k out) (zero-mul delivery.width))

  pub copied_more : (i : ℕ) (d : Delivery) (l : List ℕ) → (i + 1) * delivery.width ≤ length out → d ≡ record_at m log i
      → l ≡ over delivery.form (first_ones i) out → put_words l (i * delivery.width) (delivery.words d) ≡ over delivery.form (first_ones (i + 1)) out
  copied_more i d l room hd e =
      let at : ℕ → Delivery = slot_at delivery.form m 0 records_at log in
      let n : i + 1 ≡ suc i = omega arith in
      let z : 0 + i ≡ i = omega arith in
      let row : d ≡ at (slot_of m (first_at 0 log) (0 + i)) = hd ∙ ap at (ap (slot_of m (first_at 0 log)) (sym z)) in
      ap (λ (x : List ℕ). put_words x (i * delivery.width) (delivery.words d)) e
      ∙ over_more delivery.form delivery-laws.exact (first_ones i) out i d (length_from at m (first_at 0 log) 0 i) room
      ∙ ap (λ (r : Delivery). over delivery.form (first_ones i ++ (r ∷ [])) out) row
      ∙ ap (λ (l : List Delivery). over delivery.form l out) (sym (from_snoc at m (first_at 0 log) 0 i))
      ∙ ap (λ (k : ℕ). over delivery.form (first_ones k) out) (sym n)

pub drained_log : (m : ℕ) (log : List ℕ) → log_of m (cleared_at log) ≡ empty_log
unfolding cleared_at
drained_log m log = refl

pub drained_sound : (m : ℕ) (log : List ℕ) → SoundLog m (cleared_at log)
unfolding cleared_at
drained_sound m log = record { counted = omega arith; begun = λ h. h }

-- the ways out of `drain`
pub by_head : {A : Type 0} (m : ℕ) (log : List ℕ) (b : Bool) (x y : A) → sound_log m log ≡ b → cond b x y ≡ cond (sound_log m log) x y
by_head m log b x y e = ap (λ (t : Bool). cond t x y) (sym e)
