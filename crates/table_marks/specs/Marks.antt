-- Document 01, 'The book', marks (till, id): the ids that a till has seen. The newest stand apart, behind the older ones; either part rises. With `newest` of
-- them they go among the older ones, so that one id more moves few words. On any list each answer is what the halving gives.
use Rattle.std.specs.Prelude.{◌≡◌, List, [], ◌∷◌, ◌++◌, Bool, false, cond, ◌&&◌, ◌||◌, ℕ, zero, suc, ◌+◌, ◌-◌, ◌/◌, ◌%◌, ◌<◌, ltb, eqb, length, get_or, take, drop}
use Rattle.table_rows.specs.Lists.{Each, front, behind}
use Rattle.table_marks.specs.declared.Span.{Span}

-- the `count` ids from `start` on
abbrev pub ids_of : List ℕ → ℕ → ℕ → List ℕ
ids_of seen start count = take count (drop start seen)

-- the place of id, known to be one of lo .. lo + n, in at most `turns` halvings
unfoldable pub halve : ℕ → List ℕ → ℕ → ℕ → ℕ → ℕ
halve zero ids id lo n = lo
halve (suc turns) ids id lo zero = lo
halve (suc turns) ids id lo (suc m) =
    let half = m / 2 in
    halve turns ids id (cond (ltb (get_or ids (lo + half) 0) id) (lo + half + 1) lo) (suc m / 2)

-- one halving
unfoldable pub halved : List ℕ → ℕ → Span → Span
halved ids id s = cond (eqb s.n 0) s (record { lo = cond (ltb (get_or ids (s.lo + (s.n - 1) / 2) 0) id) (s.lo + (s.n - 1) / 2 + 1) s.lo; n = s.n / 2 })

-- the place that the halvings of a span end at
abbrev pub leads_to : List ℕ → ℕ → Span → ℕ
leads_to ids id s = halve s.n ids id s.lo s.n

-- ---- One part: rising ids

-- the place of the first id that is not below id
unfoldable pub position : ℕ → List ℕ → ℕ
position id ids = halve (length ids) ids id 0 (length ids)

abbrev pub found_in : ℕ → List ℕ → Bool
found_in id ids = ltb (position id ids) (length ids) && eqb (get_or ids (position id ids) 0) id

-- one id more, at place p, and at its own
abbrev pub placed_at : ℕ → ℕ → List ℕ → List ℕ
placed_at p id ids = take p ids ++ (id ∷ drop p ids)

abbrev pub placed_in : ℕ → List ℕ → List ℕ
placed_in id ids = placed_at (position id ids) id ids

-- one id less, if it is there
abbrev pub removed_in : ℕ → List ℕ → List ℕ
removed_in id ids = cond (found_in id ids) (take (position id ids) ids ++ drop (suc (position id ids)) ids) ids

-- the newer ids, each behind the older ones below it
abbrev pub merged : List ℕ → List ℕ → List ℕ
merged old [] = old
merged old (i ∷ new) = front (λ (j : ℕ). ltb j i) old ++ (i ∷ merged (behind (λ (j : ℕ). ltb j i) old) new)

-- ---- Both parts

-- so many of the newest ids stand apart, or fewer
abbrev pub newest : ℕ
newest = 128

-- how many of n ids are older ones
abbrev pub older : ℕ → ℕ
older n = n - n % newest

abbrev pub old_of : List ℕ → List ℕ
old_of ids = take (older (length ids)) ids

abbrev pub new_of : List ℕ → List ℕ
new_of ids = drop (older (length ids)) ids

abbrev pub found : ℕ → List ℕ → Bool
found id ids = found_in id (old_of ids) || found_in id (new_of ids)

-- both parts in a row, merged once the newer one is full
abbrev pub grown : List ℕ → List ℕ → List ℕ
grown old new = cond (eqb (length new) newest) (merged old new) (old ++ new)

abbrev pub placed : ℕ → List ℕ → List ℕ
placed id ids = grown (old_of ids) (placed_in id (new_of ids))

-- the older ones, one short, take in the first newer id
abbrev pub refilled : List ℕ → List ℕ → List ℕ
refilled old [] = old
refilled old (i ∷ new) = placed_in i old ++ new

abbrev pub removed : ℕ → List ℕ → List ℕ
removed id ids = cond (found_in id (old_of ids)) (refilled (removed_in id (old_of ids)) (new_of ids)) (old_of ids ++ removed_in id (new_of ids))

-- all of them rising, as they are listed
abbrev pub listed : List ℕ → List ℕ
listed ids = merged (old_of ids) (new_of ids)

-- ---- The order

-- each id is below those behind it
abbrev pub Rises : List ℕ → Type 0
Rises [] = Unit {0}
Rises (i ∷ l) = Each (λ (j : ℕ). i < j) l × Rises l

abbrev pub member : ℕ → List ℕ → Bool
member id [] = false
member id (i ∷ l) = eqb id i || member id l

-- THE ORDER of both parts: either rises, and no newer id is among the older ones
abbrev pub Ordered : List ℕ → Type 0
Ordered ids = Rises (old_of ids) × Rises (new_of ids) × Each (λ (i : ℕ). member i (old_of ids) ≡ false) (new_of ids)
