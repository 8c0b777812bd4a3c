-- Document 01, network (a ring gives up its oldest first): a ring of `m` slots; its oldest entry stands in the slot `first`, the others behind it, round the end.
-- In a table of words its count and first slot stand at h and h + 1, its slots from `base` on.
use Rattle.std.specs.Prelude.{List, [], ◌∷◌, ◌++◌, Bool, cond, ◌&&◌, ℕ, zero, suc, ◌+◌, ◌*◌, ◌-◌, ◌≤◌, ◌<◌, ltb, leb, length, get_or, drop}
use Rattle.table_shift.specs.Shift.{put_words}
use Rattle.table_rows.specs.Table.{Form}
use Rattle.table_ring.specs.declared.Push.{Push}

-- one more at the end; where the places are taken, the oldest is given up
abbrev pub push : {R : Type 0} → ℕ → List R → R → List R
push places l a = cond (ltb (length l) places) (l ++ (a ∷ [])) (drop 1 (l ++ (a ∷ [])))

-- no ring has more slots
abbrev pub most : ℕ
most = 4096

-- the slot of the k-th oldest entry
unfoldable pub slot_of : ℕ → ℕ → ℕ → ℕ
slot_of m first k = cond (ltb (first + k) m) (first + k) (first + k - m)

-- one entry more: behind the others, or in place of the oldest
unfoldable pub push_slot : ℕ → ℕ → ℕ → Push
push_slot m count first =
    cond (ltb count m)
    (record { slot = slot_of m first count; count = count + 1; first = first })
    (record { slot = first; count = count; first = slot_of m first 1 })

-- n entries from the k-th oldest on, where `at` reads a slot
abbrev pub ring_from : {R : Type 0} → (ℕ → R) → ℕ → ℕ → ℕ → ℕ → List R
ring_from at m first k zero = []
ring_from at m first k (suc n) = at (slot_of m first k) ∷ ring_from at m first (suc k) n

-- the entries, oldest first
abbrev pub ring : {R : Type 0} → (ℕ → R) → ℕ → ℕ → ℕ → List R
ring at m first count = ring_from at m first 0 count

-- ---- In a table of words

abbrev pub count_at : ℕ → List ℕ → ℕ
count_at h ws = get_or ws h 0

abbrev pub first_at : ℕ → List ℕ → ℕ
first_at h ws = get_or ws (h + 1) 0

-- what question 1 asks of the head
abbrev pub sound_at : ℕ → ℕ → List ℕ → Bool
sound_at m h ws = leb (count_at h ws) m && ltb (first_at h ws) m

pub record Sound (m h : ℕ) (ws : List ℕ) : Type 0 where
  pub counted : count_at h ws ≤ m
  pub begun : first_at h ws < m

module _ {R : Type 0} (f : Form R) (m h base : ℕ) where
  -- the entry in slot s
  abbrev pub slot_at : List ℕ → ℕ → R
  slot_at ws s = f.read (drop (base + s * f.width) ws)

  -- the entries, oldest first
  abbrev pub ring_at : List ℕ → List R
  ring_at ws = ring (slot_at ws) m (first_at h ws) (count_at h ws)

  -- the k-th oldest, or `none` where there is none or the head is not in range
  unfoldable pub entry_at : R → List ℕ → ℕ → R
  entry_at none ws k = cond (sound_at m h ws && ltb k (count_at h ws)) (slot_at ws (slot_of m (first_at h ws) k)) none

  abbrev pub next_at : List ℕ → Push
  next_at ws = push_slot m (count_at h ws) (first_at h ws)

  -- the entry's words in its slot, then the head
  abbrev pub written_at : List ℕ → R → List ℕ
  written_at ws e = put_words (put_words ws (base + (next_at ws).slot * f.width) (f.words e)) h ((next_at ws).count ∷ (next_at ws).first ∷ [])

  -- one entry more; a table whose head is not in range stays as it is
  unfoldable pub pushed_at : List ℕ → R → List ℕ
  pushed_at ws e = cond (sound_at m h ws) (written_at ws e) ws
