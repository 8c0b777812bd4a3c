-- A ring in a table of words: one entry more, the head in range again, and all else as it was. Assumes nothing.
use mathlib.Core.Path.{◌≡◌, refl, sym, ap, ◌∙◌}
use mathlib.Core.List.{List, [], ◌∷◌, ◌++◌}
use mathlib.Core.Bool.{Bool, true, false, cond, ◌&&◌, false≢true}
use Prim.Native.Nat.{ℕ, ◌+◌, ◌*◌, ◌≤◌, ◌<◌}
use native.Mathlib.Nat.{add-zero, zero-add, add-mul, mul-le-mul_right}
use native.Mathlib.Omega.{arith}
use lib.Dec.{ltb, leb}
use lib.ListN.{length, get_or, take, drop, length-drop, get_or-eq_default}
use lib.Seq.{get_or-take, get_or-drop, drop-drop, drop_at, length-take-le}
use borrow.Author.Tests.{ltb-true, ltb-false, leb-true, lt-ltb, le-leb}
use Rattle.table_shift.specs.Shift.{put_words}
use Rattle.table_shift.proofs.Laws.{length_put}
use Rattle.table_shift.proofs.Parts.{put_before, put_here, put_behind}
use Rattle.table_rows.specs.Table.{Form, Exact}
use Rattle.table_rows.proofs.Table.{read_within}
use Rattle.table_ring.specs.Ring.{push, slot_of, ring, count_at, first_at, sound_at, Sound, slot_at, ring_at, entry_at, next_at, written_at, pushed_at}
use Rattle.table_ring.proofs.Laws.{push_in, push_counts, push_ring, ring_same, ring_at_lem, length_from}

-- THE HEAD: the test and the facts
pub sound_true : (m h : ℕ) (ws : List ℕ) → Sound m h ws → sound_at m h ws ≡ true
sound_true m h ws s = rw (le-leb (count_at h ws) m s.counted, lt-ltb (first_at h ws) m s.begun)

pub true_sound : (m h : ℕ) (ws : List ℕ) → sound_at m h ws ≡ true → Sound m h ws
true_sound m h ws = go (leb (count_at h ws) m) refl (ltb (first_at h ws) m) refl
  where
    go : (a : Bool) → leb (count_at h ws) m ≡ a → (b : Bool) → ltb (first_at h ws) m ≡ b → (a && b) ≡ true → Sound m h ws
    go true p true q e = record { counted = leb-true (count_at h ws) m p; begun = ltb-true (first_at h ws) m q }
    go true p false q e = absurd (false≢true e)
    go false p b q e = absurd (false≢true e)

-- a head read from the two words that hold it
two : (h : ℕ) (ws ws' : List ℕ) → take 2 (drop h ws') ≡ take 2 (drop h ws) → (count_at h ws' ≡ count_at h ws) × (first_at h ws' ≡ first_at h ws)
two h ws ws' e =
    let cell : (w : List ℕ) (i : ℕ) → i < 2 → get_or w (h + i) 0 ≡ get_or (take 2 (drop h w)) i 0 = λ w i q. sym (get_or-take 2 (drop h w) i 0 q ∙ get_or-drop h w i 0) in (
      ap (λ (j : ℕ). get_or ws' j 0) (sym (add-zero h)) ∙ cell ws' 0 (omega arith) ∙ ap (λ (x : List ℕ). get_or x 0 0) e ∙ sym (cell ws 0 (omega arith)) ∙ ap (λ (j : ℕ). get_or ws j 0) (add-zero h),
      cell ws' 1 (omega arith) ∙ ap (λ (x : List ℕ). get_or x 1 0) e ∙ sym (cell ws 1 (omega arith)),
    )

pub sound_same : (m h : ℕ) (ws ws' : List ℕ) → take 2 (drop h ws') ≡ take 2 (drop h ws) → Sound m h ws → Sound m h ws'
sound_same m h ws ws' e s = let t = two h ws ws' e in record { counted = rw t.0 s.counted; begun = rw t.1 s.begun }

module _ {R : Type 0} (f : Form R) (x : Exact f) (m h base : ℕ) where
  within : (s : ℕ) → s < m → base + s * f.width + f.width ≤ base + m * f.width
  within s q = let u : (s + 1) * f.width ≤ m * f.width = mul-le-mul_right f.width (omega arith) in omega (arith, add-mul s 1 f.width)

  -- a ring whose head and slots hold the same
  pub ring_elsewhere : (ws ws' : List ℕ) → take 2 (drop h ws') ≡ take 2 (drop h ws) → take (m * f.width) (drop base ws') ≡ take (m * f.width) (drop base ws)
      → base + m * f.width ≤ length ws → base + m * f.width ≤ length ws' → Sound m h ws → ring_at f m h base ws' ≡ ring_at f m h base ws
  ring_elsewhere ws ws' e d room room' s =
      let t = two h ws ws' e in
      let lw = length-drop base ws in
      let lw' = length-drop base ws' in
      let slot : (i : ℕ) → i < m → slot_at f m h base ws' i ≡ slot_at f m h base ws i = λ i q.
      (let w = within i q in
      ap f.read (sym (drop-drop (i * f.width) base ws'))
      ∙ read_within f x (drop base ws) (drop base ws') (m * f.width) (i * f.width) d (omega arith) (omega arith) (omega arith)
      ∙ ap f.read (drop-drop (i * f.width) base ws)) in
      ap (λ (k : ℕ). ring (slot_at f m h base ws') m k (count_at h ws')) t.1
      ∙ ap (λ (k : ℕ). ring (slot_at f m h base ws') m (first_at h ws) k) t.0
      ∙ ring_same (slot_at f m h base ws) (slot_at f m h base ws') m (first_at h ws) (count_at h ws) s.begun s.counted slot

  -- the k-th oldest
  pub entry_oldest : (none : R) (ws : List ℕ) (k : ℕ) → Sound m h ws → entry_at f m h base none ws k ≡ get_or (ring_at f m h base ws) k none
  unfolding entry_at
  entry_oldest none ws k s = rw (sound_true m h ws s) (go (ltb k (count_at h ws)) refl)
    where
      go : (b : Bool) → ltb k (count_at h ws) ≡ b → cond b (slot_at f m h base ws (slot_of m (first_at h ws) k)) none ≡ get_or (ring_at f m h base ws) k none
      go true t =
          sym (ring_at_lem (slot_at f m h base ws) m (first_at h ws) 0 (count_at h ws) k none (ltb-true k (count_at h ws) t)
          ∙ ap (λ (j : ℕ). slot_at f m h base ws (slot_of m (first_at h ws) j)) (zero-add k))
      go false t = sym (get_or-eq_default (ring_at f m h base ws) none (let q = ltb-false k (count_at h ws) t in let l =
          length_from (slot_at f m h base ws) m (first_at h ws) 0 (count_at h ws) in omega arith))

  -- ONE ENTRY MORE
  module _ (ws : List ℕ) (e : R) (head : h + 2 ≤ base) (room : base + m * f.width ≤ length ws) (sound : Sound m h ws) where
    put : List ℕ
    put = put_words ws (base + (next_at f m h base ws).slot * f.width) (f.words e)

    fits : base + (next_at f m h base ws).slot * f.width + length (f.words e) ≤ base + m * f.width
    fits = let p = push_in m (count_at h ws) (first_at h ws) sound.counted sound.begun in omega (arith, x.long e, within (next_at f m h base ws).slot p)

    length_slot : length put ≡ length ws
    unfolding put
    length_slot = length_put ws (base + (next_at f m h base ws).slot * f.width) (f.words e) (omega (arith, fits))

    pub pushed_is : pushed_at f m h base ws e ≡ written_at f m h base ws e
    unfolding pushed_at
    pushed_is = ap (λ (b : Bool). cond b (written_at f m h base ws e) ws) (sound_true m h ws sound)

    pub length_written : length (written_at f m h base ws e) ≡ length ws
    unfolding put
    length_written = length_put put h ((next_at f m h base ws).count ∷ (next_at f m h base ws).first ∷ []) (omega (arith, length_slot)) ∙ length_slot

    -- the head
    heads : (count_at h (written_at f m h base ws e) ≡ (next_at f m h base ws).count) × (first_at h (written_at f m h base ws e) ≡ (next_at f m h base ws).first)
    unfolding put
    heads =
        let v : List ℕ = (next_at f m h base ws).count ∷ (next_at f m h base ws).first ∷ [] in
        let here : take 2 (drop h (put_words put h v)) ≡ v = put_here put h v (omega (arith, length_slot)) in
        let cell : (i : ℕ) → i < 2 → get_or (put_words put h v) (h + i) 0 ≡ get_or v i 0 = λ i q.
        (sym (get_or-take 2 (drop h (put_words put h v)) i 0 q ∙ get_or-drop h (put_words put h v) i 0) ∙ ap (λ (w : List ℕ). get_or w i 0) here) in
        (ap (λ (j : ℕ). get_or (put_words put h v) j 0) (sym (add-zero h)) ∙ cell 0 (omega arith), cell 1 (omega arith))

    pub written_sound : Sound m h (written_at f m h base ws e)
    written_sound =
        let c = push_counts m (count_at h ws) (first_at h ws) sound.counted sound.begun in
        record { counted = rw heads.0 c.0; begun = rw heads.1 c.1 }

    -- the slots are read past the head
    past_head : (s : ℕ) → slot_at f m h base (written_at f m h base ws e) s ≡ slot_at f m h base put s
    unfolding put
    past_head s = ap f.read (put_behind put h ((next_at f m h base ws).count ∷ (next_at f m h base ws).first ∷ []) (base + s * f.width) (omega arith) (omega (arith, length_slot)))

    slot_here : slot_at f m h base put (next_at f m h base ws).slot ≡ e
    unfolding put put_words
    slot_here =
        let b : ℕ = base + (next_at f m h base ws).slot * f.width in
        ap f.read (drop_at (take b ws) (f.words e ++ drop (b + length (f.words e)) ws) b (length-take-le b ws (omega (arith, fits))))
        ∙ x.back e (drop (b + length (f.words e)) ws)

    slot_elsewhere : (t : ℕ) → (t ≡ (next_at f m h base ws).slot → ⊥) → slot_at f m h base put t ≡ slot_at f m h base ws t
    unfolding put
    slot_elsewhere t n = go (ltb t s) refl
      where
        s : ℕ
        s = (next_at f m h base ws).slot

        go : (b : Bool) → ltb t s ≡ b → slot_at f m h base (put_words ws (base + s * f.width) (f.words e)) t ≡ slot_at f m h base ws t
        go true w =
            let l = ltb-true t s w in
            let u : (t + 1) * f.width ≤ s * f.width = mul-le-mul_right f.width (omega arith) in
            let c : base + t * f.width + f.width ≤ base + s * f.width = omega (arith, add-mul t 1 f.width) in
            let before : take (base + s * f.width) (put_words ws (base + s * f.width) (f.words e)) ≡ take (base + s * f.width) ws
            = put_before ws (base + s * f.width) (f.words e) 0 (base + s * f.width) (omega arith) (omega (arith, fits)) in
            read_within f x ws (put_words ws (base + s * f.width) (f.words e)) (base + s * f.width) (base + t * f.width) before c (omega (arith, fits))
            (omega (arith, fits, length_put ws (base + s * f.width) (f.words e) (omega (arith, fits))))
        go false w =
            let l = ltb-false t s w in
            let u : (s + 1) * f.width ≤ t * f.width = mul-le-mul_right f.width (omega (arith, n)) in
            ap f.read (put_behind ws (base + s * f.width) (f.words e) (base + t * f.width) (omega (arith, add-mul s 1 f.width, x.long e)) (omega (arith, fits)))

    -- THE LAW: one entry more; where all slots are taken the oldest is given up
    pub ring_written : ring_at f m h base (written_at f m h base ws e) ≡ push m (ring_at f m h base ws) e
    ring_written =
        let c = push_counts m (count_at h ws) (first_at h ws) sound.counted sound.begun in
        ap (λ (k : ℕ). ring (slot_at f m h base (written_at f m h base ws e)) m k (count_at h (written_at f m h base ws e))) heads.1
        ∙ ap (λ (k : ℕ). ring (slot_at f m h base (written_at f m h base ws e)) m (next_at f m h base ws).first k) heads.0
        ∙ ring_same (slot_at f m h base put) (slot_at f m h base (written_at f m h base ws e)) m (next_at f m h base ws).first (next_at f m h base ws).count c.1 c.0 (λ s q. past_head s)
        ∙ push_ring (slot_at f m h base ws) (slot_at f m h base put) m (first_at h ws) e sound.begun (count_at h ws) sound.counted slot_here slot_elsewhere

    -- ALL ELSE stays: n words from t on, before the head, between head and slots, or behind the slots
    pub before_head : (t n : ℕ) → t + n ≤ h → take n (drop t (written_at f m h base ws e)) ≡ take n (drop t ws)
    unfolding put
    before_head t n q =
        put_before put h ((next_at f m h base ws).count ∷ (next_at f m h base ws).first ∷ []) t n q (omega (arith, length_slot))
        ∙ put_before ws (base + (next_at f m h base ws).slot * f.width) (f.words e) t n (omega arith) (omega (arith, fits))

    pub before_slots : (t n : ℕ) → h + 2 ≤ t → t + n ≤ base → take n (drop t (written_at f m h base ws e)) ≡ take n (drop t ws)
    unfolding put
    before_slots t n q r =
        ap (take n) (put_behind put h ((next_at f m h base ws).count ∷ (next_at f m h base ws).first ∷ []) t (omega arith) (omega (arith, length_slot)))
        ∙ put_before ws (base + (next_at f m h base ws).slot * f.width) (f.words e) t n (omega arith) (omega (arith, fits))

    pub behind_slots : (t : ℕ) → base + m * f.width ≤ t → drop t (written_at f m h base ws e) ≡ drop t ws
    unfolding put
    behind_slots t q =
        put_behind put h ((next_at f m h base ws).count ∷ (next_at f m h base ws).first ∷ []) t (omega arith) (omega (arith, length_slot))
        ∙ put_behind ws (base + (next_at f m h base ws).slot * f.width) (f.words e) t (omega (arith, fits)) (omega (arith, fits))
