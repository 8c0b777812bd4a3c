-- Ring r after one entry more, and the other rings. Assumes nothing.
use mathlib.Core.Path.{◌≡◌, refl, sym, ap, ◌∙◌}
use mathlib.Core.List.{List, [], ◌∷◌}
use mathlib.Core.Bool.{Bool, true, false, cond}
use Prim.Native.Nat.{ℕ, ◌+◌, ◌*◌, ◌≤◌, ◌<◌}
use native.Mathlib.Omega.{arith}
use lib.Dec.{ltb}
use lib.ListN.{length, get_or, set, take, drop}
use borrow.Author.Tests.{ltb-true, ltb-false, lt-ltb, le-ltb}
use Rattle.table_shift.specs.Shift.{put_words}
use Rattle.table_rows.proofs.Lists.{up_to_set}
use Rattle.table_ring.specs.declared.Push.{Push}
use Rattle.table_ring.specs.Ring.{push, first_at, sound_at, slot_of, entry_at, next_at, written_at, pushed_at}
use Rattle.table_ring.proofs.Table.{entry_oldest, sound_same, pushed_is, length_written, written_sound, ring_written, ring_elsewhere, before_head, before_slots, behind_slots}
use Rattle.table_rings.specs.declared.Entry.{Entry}
use Rattle.table_rings.specs.Rings.{slots, width, head_width, span, read, words, form, none, Fits, head_of, base_of, count_of, SoundRing, entries, all_rings, entry_of, pushed}
pub use Rattle.table_rings.specs.Rings.{exact}

-- the ways out of `get`
module _ (rings : ℕ) (ws : List ℕ) (r k : ℕ) where
  pub got : (e : Entry) (s : ℕ) → sound_at slots (head_of r) ws ≡ true → k < count_of ws r → s ≡ slot_of slots (first_at (head_of r) ws) k →
      e ≡ read (drop (base_of rings r + s * width) ws) → e ≡ entry_of rings ws r k
  unfolding entry_at
  got e s h q w is = is ∙ ap (λ (j : ℕ). read (drop (base_of rings r + j * width) ws)) w ∙ sym (rw (h, lt-ltb k (count_of ws r) q))

  pub got_none : sound_at slots (head_of r) ws ≡ true → count_of ws r ≤ k → none ≡ entry_of rings ws r k
  unfolding entry_at
  got_none h q = sym (rw (h, le-ltb k (count_of ws r) q))

  pub got_out : sound_at slots (head_of r) ws ≡ false → none ≡ entry_of rings ws r k
  unfolding entry_at
  got_out h = sym (rw h)

-- the ways out of `push`
module _ (rings : ℕ) (ws : List ℕ) (r : ℕ) (e : Entry) where
  pub left : sound_at slots (head_of r) ws ≡ false → ws ≡ pushed rings ws r e
  unfolding pushed_at
  left h = sym (ap (λ (b : Bool). cond b (written_at form slots (head_of r) (base_of rings r) ws e) ws) h)

  pub wrote : (p : Push) (l l' : List ℕ) → sound_at slots (head_of r) ws ≡ true → p ≡ next_at form slots (head_of r) (base_of rings r) ws
      → l ≡ put_words ws (base_of rings r + p.slot * width) (words e) → l' ≡ put_words l (head_of r) (p.count ∷ p.first ∷ []) → l' ≡ pushed rings ws r e
  unfolding pushed_at
  wrote p l l' h q a b =
      b ∙ ap (λ (w : List ℕ). put_words w (head_of r) (p.count ∷ p.first ∷ [])) a
      ∙ ap (λ (n : Push). put_words (put_words ws (base_of rings r + n.slot * width) (words e)) (head_of r) (n.count ∷ n.first ∷ [])) q
      ∙ sym (ap (λ (t : Bool). cond t (written_at form slots (head_of r) (base_of rings r) ws e) ws) h)

-- `get` gives the k-th oldest
pub get_oldest : (rings : ℕ) (ws : List ℕ) (r k : ℕ) → SoundRing ws r → entry_of rings ws r k ≡ get_or (entries rings ws r) k none
get_oldest rings ws r k s = entry_oldest form exact slots (head_of r) (base_of rings r) none ws k s

module _ (rings : ℕ) (ws : List ℕ) (r : ℕ) (e : Entry) (fits : Fits rings r ws) (sound : SoundRing ws r) where
  head : head_of r + head_width ≤ base_of rings r
  head = omega (arith, fits.there)

  room : base_of rings r + span ≤ length ws
  room = omega (arith, fits.there, fits.room)

  after : pushed rings ws r e ≡ written_at form slots (head_of r) (base_of rings r) ws e
  after = pushed_is form exact slots (head_of r) (base_of rings r) ws e head room sound

  pub length_pushed : length (pushed rings ws r e) ≡ length ws
  length_pushed = ap length after ∙ length_written form exact slots (head_of r) (base_of rings r) ws e head room sound

  -- THE LAW: one entry more; where 64 stand there, the oldest is given up
  pub ring_pushed : entries rings (pushed rings ws r e) r ≡ push slots (entries rings ws r) e
  ring_pushed = ap (λ (w : List ℕ). entries rings w r) after ∙ ring_written form exact slots (head_of r) (base_of rings r) ws e head room sound

  pub pushed_sound : SoundRing (pushed rings ws r e) r
  pushed_sound = rw after (written_sound form exact slots (head_of r) (base_of rings r) ws e head room sound)

  -- another ring stays
  module _ (q : ℕ) (in_range : q < rings) (other : q ≡ r → ⊥) where
    head_stays : take head_width (drop (head_of q) (pushed rings ws r e)) ≡ take head_width (drop (head_of q) ws)
    head_stays = ap (λ (w : List ℕ). take head_width (drop (head_of q) w)) after ∙ go (ltb q r) refl
      where
        go : (b : Bool) → ltb q r ≡ b → take head_width (drop (head_of q) (written_at form slots (head_of r) (base_of rings r) ws e)) ≡ take head_width (drop (head_of q) ws)
        go true t = let l = ltb-true q r t in before_head form exact slots (head_of r) (base_of rings r) ws e head room sound (head_of q) head_width (omega arith)
        go false t = let l = ltb-false q r t in before_slots form exact slots (head_of r) (base_of rings r) ws e head room sound (head_of q) head_width (omega (arith, other)) (omega arith)

    slots_stay : take span (drop (base_of rings q) (pushed rings ws r e)) ≡ take span (drop (base_of rings q) ws)
    slots_stay = ap (λ (w : List ℕ). take span (drop (base_of rings q) w)) after ∙ go (ltb q r) refl
      where
        go : (b : Bool) → ltb q r ≡ b → take span (drop (base_of rings q) (written_at form slots (head_of r) (base_of rings r) ws e)) ≡ take span (drop (base_of rings q) ws)
        go true t = let l = ltb-true q r t in before_slots form exact slots (head_of r) (base_of rings r) ws e head room sound (base_of rings q) span (omega (arith, fits.there)) (omega arith)
        go false t = let l = ltb-false q r t in ap (take span) (behind_slots form exact slots (head_of r) (base_of rings r) ws e head room sound (base_of rings q) (omega (arith, other)))

    pub other_sound : SoundRing ws q → SoundRing (pushed rings ws r e) q
    other_sound s = sound_same slots (head_of q) ws (pushed rings ws r e) head_stays s

    pub other_stays : SoundRing ws q → entries rings (pushed rings ws r e) q ≡ entries rings ws q
    other_stays s =
        ring_elsewhere form exact slots (head_of q) (base_of rings q) ws (pushed rings ws r e) head_stays slots_stay
        (omega (arith, in_range, fits.room)) (omega (arith, in_range, fits.room, length_pushed)) s

  -- ALL RINGS, where every head is in range
  pub all_pushed : ((q : ℕ) → q < rings → SoundRing ws q) → all_rings rings (pushed rings ws r e) ≡ set (all_rings rings ws) r (push slots (entries rings ws r) e)
  all_pushed s =
      up_to_set rings (entries rings ws) (entries rings (pushed rings ws r e)) r fits.there (λ q w n. other_stays q w n (s q w))
      ∙ ap (set (all_rings rings ws) r) ring_pushed
