-- Both parts of a till's ids in a table: where they stand, and what one id more and one id less leave. Assumes nothing.
use mathlib.Core.Path.{◌≡◌, refl, sym, ap, ap₂, ◌∙◌}
use mathlib.Core.List.{List, [], ◌∷◌, ◌++◌, append-nil}
use mathlib.Core.Bool.{Bool, true, false, cond}
use Prim.Native.Nat.{ℕ, ◌+◌, ◌-◌, ◌%◌, ◌≤◌, ◌<◌}
use native.Mathlib.Omega.{arith}
use lib.Dec.{eqb}
use lib.ListN.{length, get_or, take, drop, length-append, length-drop}
use lib.Seq.{drop_at, drop-cons, drop-drop, drop-length, get_or-drop, get_or-take, length-take-le, take-add, take_all, take_at, take-take}
use borrow.Author.Tests.{eq-eqb, ne_eqb}
use Rattle.table_shift.specs.Shift.{put_words, closed}
use Rattle.table_shift.proofs.Laws.{drop_take, length_put}
use Rattle.table_shift.proofs.Parts.{is_put, part_closed, put_before, put_here, put_behind}
use Rattle.table_marks.specs.Marks.{ids_of, found_in, placed_in, removed_in, merged, refilled, newest, older, old_of, new_of, grown, listed, placed, removed}
use Rattle.table_marks.proofs.Rising.{length_placed_in, length_removed_in, length_found_in}
use Rattle.table_marks.proofs.Search.{length_ids}
use Rattle.table_marks.proofs.Parts.{length_merged}

-- WORDS PUT OVER OTHERS: what was put within them does not matter
over : (ws ws' : List ℕ) (s : ℕ) (w : List ℕ) → take s ws' ≡ take s ws → drop (s + length w) ws' ≡ drop (s + length w) ws → put_words ws' s w ≡ put_words ws s w
unfolding put_words
over ws ws' s w a b = ap₂ (λ (p q : List ℕ). p ++ (w ++ q)) a b

pub put_over : (ws : List ℕ) (s k : ℕ) (v w : List ℕ) → k + length v ≤ length w → s + length w ≤ length ws → put_words (put_words ws (s + k) v) s w ≡ put_words ws s w
put_over ws s k v w h room =
    over ws (put_words ws (s + k) v) s w (put_before ws (s + k) v 0 s (omega arith) (omega arith)) (put_behind ws (s + k) v (s + length w) (omega arith) (omega arith))

put_same : (ws : List ℕ) (s : ℕ) (v w : List ℕ) → length v ≤ length w → s + length w ≤ length ws → put_words (put_words ws s v) s w ≡ put_words ws s w
put_same ws s v w h room = let e : s + 0 ≡ s = omega arith in ap (λ (x : ℕ). put_words (put_words ws x v) s w) (sym e) ∙ put_over ws s 0 v w (omega arith) room

-- ids that stay, and words put behind them
pub put_behind_ids : (ws : List ℕ) (s k : ℕ) (v : List ℕ) → s + k + length v ≤ length ws → put_words ws (s + k) v ≡ put_words ws s (ids_of ws s k ++ v)
put_behind_ids ws s k v room =
    let ws' : List ℕ = put_words ws (s + k) v in
    let n : length (ids_of ws s k) ≡ k = length_ids ws s k 0 (omega arith) in
    let l : length (ids_of ws s k ++ v) ≡ k + length v = omega (arith, length-append (ids_of ws s k) v, n) in
    is_put ws ws' s (k + length v) (ids_of ws s k ++ v) l (put_before ws (s + k) v 0 s (omega arith) (omega arith))
    (take-add k (length v) (drop s ws')
    ∙ ap₂ (λ (a b : List ℕ). a ++ b) (put_before ws (s + k) v s k (omega arith) (omega arith)) (ap (take (length v)) (drop-drop k s ws') ∙ put_here ws (s + k) v room))
    (put_behind ws (s + k) v (s + (k + length v)) (omega arith) room)

pub length_refilled : (old new : List ℕ) → length (refilled old new) ≡ length old + length new
length_refilled old [] = omega arith
length_refilled old (i ∷ new) = omega (arith, length-append (placed_in i old) new, length_placed_in i old)

-- the free place is taken, in a table
module _ (seen : List ℕ) (start left n : ℕ) (room : start + left + 1 + n ≤ length seen) where
  abbrev before : List ℕ
  before = ids_of seen start left

  abbrev behind : List ℕ
  behind = ids_of seen (start + left + 1) n

  pub filled_none : n ≡ 0 → seen ≡ put_words seen start (refilled before behind)
  filled_none z =
      let e : behind ≡ [] = ap (λ (j : ℕ). ids_of seen (start + left + 1) j) z in
      is_put seen seen start left before (length_ids seen start left 0 (omega arith)) refl refl refl ∙ ap (λ (b : List ℕ). put_words seen start (refilled before b)) (sym e)

  pub filled_some : (id : ℕ) (l₁ l₂ : List ℕ) → (n ≡ 0 → ⊥) → id ≡ get_or seen (start + left + 1) 0 → l₁ ≡ put_words seen start (placed_in id before) →
      l₂ ≡ closed l₁ (start + left + 1 + 1) (start + left + 1 + n) 1
      → l₂ ≡ put_words seen start (refilled before behind)
  filled_some id l₁ l₂ h e p q =
      let some : 0 < n = omega (arith, h) in
      let lb : length behind ≡ n = length_ids seen (start + left + 1) n 0 room in
      let lp : length (placed_in id before) ≡ left + 1 = length_placed_in id before ∙ omega (arith, length_ids seen start left 0 (omega arith)) in
      let f : id ≡ get_or behind 0 0
      = e ∙ sym (get_or-take n (drop (start + left + 1) seen) 0 0 some ∙ get_or-drop (start + left + 1) seen 0 0 ∙
      ap (λ (j : ℕ). get_or seen j 0) (let z : start + left + 1 + 0 ≡ start + left + 1 = omega arith in z)) in
      let cons : behind ≡ id ∷ drop 1 behind = drop-cons behind 0 0 (omega (arith, lb)) ∙ ap (λ (j : ℕ). j ∷ drop 1 behind) (sym f) in
      let same : ids_of l₁ (start + left + 1) n ≡ behind
      = ap (λ (x : List ℕ). ids_of x (start + left + 1) n) p ∙ ap (take n) (put_behind seen start (placed_in id before) (start + left + 1) (omega (arith, lp)) (omega (arith, lp))) in
      let len : length l₁ ≡ length seen = ap length p ∙ length_put seen start (placed_in id before) (omega (arith, lp)) in
      let n0 : start + left + 1 + 1 ≡ start + left + 1 + 0 + 1 = omega arith in
      let d : closed l₁ (start + left + 1 + 1) (start + left + 1 + n) 1 ≡ put_words l₁ (start + left + 1) (drop 1 behind)
      = ap (λ (j : ℕ). closed l₁ j (start + left + 1 + n) 1) n0 ∙ part_closed l₁ (start + left + 1) n 0 1 (omega arith) (omega (arith, len)) ∙
      ap (λ (x : List ℕ). put_words l₁ (start + left + 1) (drop 1 x)) same in
      let one : length (drop 1 behind) ≡ n - 1 = rw length-drop (omega (arith, lb)) in
      let at : start + left + 1 ≡ start + (left + 1) = omega arith in
      let own : ids_of l₁ start (left + 1) ≡ placed_in id before
      = ap₂ (λ (x : List ℕ) (j : ℕ). ids_of x start j) p (sym lp) ∙ put_here seen start (placed_in id before) (omega (arith, lp)) in
      let whole : List ℕ = placed_in id before ++ drop 1 behind in
      let lw : length (placed_in id before ++ drop 1 behind) ≡ left + n = omega (arith, length-append (placed_in id before) (drop 1 behind), lp, one, some) in
      q ∙ d ∙ ap (λ (j : ℕ). put_words l₁ j (drop 1 behind)) at ∙ put_behind_ids l₁ start (left + 1) (drop 1 behind) (omega (arith, len, one, some))
      ∙ ap (λ (x : List ℕ). put_words l₁ start (x ++ drop 1 behind)) own ∙ ap (λ (x : List ℕ). put_words x start (placed_in id before ++ drop 1 behind)) p
      ∙ put_same seen start (placed_in id before) (placed_in id before ++ drop 1 behind) (omega (arith, lw, lp, some)) (omega (arith, lw))
      ∙ ap (λ (b : List ℕ). put_words seen start (refilled before b)) (sym cons)

-- THE MERGE of the words behind `start`
pub settled_tail : (l ys : List ℕ) (start k n : ℕ) → start + (k + n) ≤ length l
    → ys ≡ merged (take k (take (length l - start) (drop start l))) (take n (drop k (take (length l - start) (drop start l)))) ++ drop (k + n) (take (length l - start) (drop start l))
    → take start l ++ (ys ++ drop (length l - start) (drop start l)) ≡ put_words l start (merged (ids_of l start k) (ids_of l (start + k) n))
unfolding put_words
settled_tail l ys start k n room e =
    let t : List ℕ = drop start l in
    let m : ℕ = length l - start in
    let lt : length t ≡ m = length-drop start l in
    let whole : take m t ≡ t = take_all m t (omega arith) in
    let none : drop m t ≡ [] = ap (λ (j : ℕ). drop j t) (sym lt) ∙ drop-length t in
    let v : List ℕ = merged (take k t) (take n (drop k t)) in
    let lv : length v ≡ k + n = length_merged (take k t) (take n (drop k t)) ∙
    ap₂ (λ (a b : ℕ). a + b) (length-take-le k t (omega arith)) (length-take-le n (drop k t) (rw length-drop (omega arith))) in
    let far : start + (k + n) ≡ start + length v = ap (λ (j : ℕ). start + j) (sym lv) in
    ap₂ (λ (y z : List ℕ). take start l ++ (y ++ z)) (e ∙ ap (λ (x : List ℕ). merged (take k x) (take n (drop k x)) ++ drop (k + n) x) whole) none
    ∙ ap (λ (x : List ℕ). take start l ++ x) (append-nil (v ++ drop (k + n) t))
    ∙ ap (λ (x : List ℕ). take start l ++ (v ++ x)) (drop-drop (k + n) start l ∙ ap (λ (j : ℕ). drop j l) far)
    ∙ ap (λ (x : List ℕ). take start l ++ (merged (take k t) (take n x) ++ drop (start + length (merged (take k t) (take n x))) l)) (drop-drop k start l)

-- THE PARTS of count ids from start on
module _ (seen : List ℕ) (start count id : ℕ) (fits : start + count ≤ length seen) where
  abbrev ids : List ℕ
  ids = ids_of seen start count

  abbrev old : List ℕ
  old = ids_of seen start (older count)

  abbrev new : List ℕ
  new = ids_of seen (start + older count) (count % newest)

  pub old_is : old_of ids ≡ old
  old_is = ap (λ (c : ℕ). take (older c) ids) (length_ids seen start count id fits) ∙ take-take (older count) count (drop start seen) (omega arith)

  pub new_is : new_of ids ≡ new
  new_is =
      let n : count - older count ≡ count % newest = omega arith in
      ap (λ (c : ℕ). drop (older c) ids) (length_ids seen start count id fits)
      ∙ drop_take (older count) count (drop start seen) (omega arith) (rw length-drop (omega arith))
      ∙ ap₂ take n (drop-drop (older count) start seen)

  length_old : length old ≡ older count
  length_old = length_ids seen start (older count) id (omega arith)

  length_new : length new ≡ count % newest
  length_new = length_ids seen (start + older count) (count % newest) id (omega arith)

  -- how many are left in a part
  pub left_old : {b : Bool} (r : ℕ) → b ≡ found_in id old → b ≡ true → r ≡ length (removed_in id old) → r + 1 ≡ older count
  left_old r e h n = omega (arith, n, length_found_in id old (sym e ∙ h), length_old)

  pub left_new : (r : ℕ) → r ≡ length (removed_in id new) → r ≤ count % newest
  left_new r n = omega (arith, n, length_removed_in id new, length_new)

  -- one id less
  pub less_new : {b : Bool} (l : List ℕ) (r : ℕ) → b ≡ found_in id old → b ≡ false → r ≡ length (removed_in id new) → l ≡ put_words seen (start + older count) (removed_in id new)
      → (older count + r ≡ length (removed id ids)) × (l ≡ put_words seen start (removed id ids))
  less_new l r e h n p =
      let is : removed id ids ≡ old ++ removed_in id new
      = ap (λ (b : Bool). cond b (refilled (removed_in id (old_of ids)) (new_of ids)) (old_of ids ++ removed_in id (new_of ids))) (ap (found_in id) old_is ∙ sym e ∙ h)
      ∙ ap₂ (λ (a b : List ℕ). a ++ removed_in id b) old_is new_is in
      let few = length_removed_in id new in
      let m : older count + r ≡ length (old ++ removed_in id new) = omega (arith, n, length-append old (removed_in id new), length_old) in
      (m ∙ ap length (sym is), p ∙ put_behind_ids seen start (older count) (removed_in id new) (omega (arith, few, length_new)) ∙ ap (put_words seen start) (sym is))

  -- the place that became free is taken
  pub less_old : {b : Bool} (seen₁ l : List ℕ) (r : ℕ) → b ≡ found_in id old → b ≡ true → r ≡ length (removed_in id old) → seen₁ ≡ put_words seen start (removed_in id old)
      → l ≡ put_words seen₁ start (refilled (ids_of seen₁ start r) (ids_of seen₁ (start + r + 1) (count % newest)))
      → (r + count % newest ≡ length (removed id ids)) × (l ≡ put_words seen start (removed id ids))
  less_old seen₁ l r e h n p q =
      let cut : List ℕ = removed_in id old in
      let some = length_found_in id old (sym e ∙ h) in
      let room : start + length (removed_in id old) ≤ length seen = omega (arith, some, length_old, fits) in
      let at : start + r + 1 ≡ start + older count = omega (arith, n, some, length_old) in
      let a : ids_of seen₁ start r ≡ removed_in id old = ap₂ (λ (x : List ℕ) (j : ℕ). ids_of x start j) p n ∙ put_here seen start (removed_in id old) room in
      let b : ids_of seen₁ (start + r + 1) (count % newest) ≡ new
      = ap₂ (λ (x : List ℕ) (j : ℕ). ids_of x j (count % newest)) p at
      ∙ ap (take (count % newest)) (put_behind seen start (removed_in id old) (start + older count) (omega (arith, some, length_old)) room) in
      let is : removed id ids ≡ refilled (removed_in id old) new
      = ap (λ (b : Bool). cond b (refilled (removed_in id (old_of ids)) (new_of ids)) (old_of ids ++ removed_in id (new_of ids))) (ap (found_in id) old_is ∙ sym e ∙ h)
      ∙ ap₂ (λ (a b : List ℕ). refilled (removed_in id a) b) old_is new_is in
      let m : length (refilled (removed_in id old) new) ≡ r + count % newest = length_refilled (removed_in id old) new ∙ omega (arith, n, length_new) in (
        sym m ∙ ap length (sym is),
        q ∙ ap₂ (λ (x : List ℕ) (y : List ℕ). put_words seen₁ start (refilled x y)) a b ∙ ap (λ (x : List ℕ). put_words x start (refilled (removed_in id old) new)) p
            ∙ put_same seen start (removed_in id old) (refilled (removed_in id old) new) (omega (arith, m, n)) (omega (arith, m, n, some, length_old, fits)) ∙ ap (put_words seen start) (sym is),
      )

-- ALL OF THEM, at the front of a table
pub listed_is : (ws l : List ℕ) (count : ℕ) → count ≤ length ws
    → l ≡ merged (take (older count) ws) (take (count % newest) (drop (older count) ws)) ++ drop (older count + count % newest) ws → l ≡ listed (take count ws) ++ drop count ws
listed_is ws l count fits e =
    let n : older count + count % newest ≡ count = omega arith in
    let f : 0 + count ≤ length ws = omega arith in
    let z : 0 + older count ≡ older count = omega arith in
    let w : new_of (take count ws) ≡ take (count % newest) (drop (older count) ws) = new_is ws 0 count 0 f ∙ ap (λ (j : ℕ). ids_of ws j (count % newest)) z in
    e ∙ ap₂ (λ (a b : List ℕ). merged a b ++ drop (older count + count % newest) ws) (sym (old_is ws 0 count 0 f)) (sym w)
    ∙ ap (λ (k : ℕ). listed (take count ws) ++ drop k ws) n

-- ONE ID MORE
module _ (seen : List ℕ) (start count id : ℕ) (room : start + count + 1 ≤ length seen) where
  fit : start + count ≤ length seen
  fit = omega arith

  abbrev more : List ℕ
  more = placed_in id (ids_of seen (start + older count) (count % newest))

  length_more : length more ≡ count % newest + 1
  length_more = length_placed_in id (ids_of seen (start + older count) (count % newest)) ∙ omega (arith, length_ids seen (start + older count) (count % newest) id (omega arith))

  placed_is : placed id (ids_of seen start count) ≡ grown (ids_of seen start (older count)) more
  placed_is = ap₂ (λ (a b : List ℕ). grown a (placed_in id b)) (old_is seen start count id fit) (new_is seen start count id fit)

  pub more_apart : (l : List ℕ) → (count % newest + 1 ≡ newest → ⊥) → l ≡ put_words seen (start + older count) more → l ≡ put_words seen start (placed id (ids_of seen start count))
  more_apart l h p =
      let f : eqb (length more) newest ≡ false = ne_eqb (length more) newest (λ z. h (sym length_more ∙ z)) in
      p ∙ put_behind_ids seen start (older count) more (omega (arith, length_more))
      ∙ ap (put_words seen start) (sym (placed_is ∙ ap (λ (b : Bool). cond b (merged (ids_of seen start (older count)) more) (ids_of seen start (older count) ++ more)) f))

  pub more_merged : (seen₁ l : List ℕ) → count % newest + 1 ≡ newest → seen₁ ≡ put_words seen (start + older count) more
      → l ≡ put_words seen₁ start (merged (ids_of seen₁ start (older count)) (ids_of seen₁ (start + older count) newest)) → l ≡ put_words seen start (placed id (ids_of seen start count))
  more_merged seen₁ l h p q =
      let lm : length more ≡ newest = length_more ∙ h in
      let far : start + older count + length more ≤ length seen = omega (arith, length_more) in
      let a : ids_of seen₁ start (older count) ≡ ids_of seen start (older count)
      = ap (λ (x : List ℕ). ids_of x start (older count)) p ∙ put_before seen (start + older count) more start (older count) (omega arith) (omega arith) in
      let b : ids_of seen₁ (start + older count) newest ≡ more
      = ap₂ (λ (x : List ℕ) (j : ℕ). ids_of x (start + older count) j) p (sym lm) ∙ put_here seen (start + older count) more far in
      let v : List ℕ = merged (ids_of seen start (older count)) more in
      let lv : length (merged (ids_of seen start (older count)) more) ≡ older count + length more
      = length_merged (ids_of seen start (older count)) more ∙ omega (arith, length_ids seen start (older count) id (omega arith)) in
      q ∙ ap₂ (λ (x y : List ℕ). put_words seen₁ start (merged x y)) a b ∙ ap (λ (x : List ℕ). put_words x start (merged (ids_of seen start (older count)) more)) p
      ∙ put_over seen start (older count) more (merged (ids_of seen start (older count)) more) (omega (arith, lv)) (omega (arith, lv, far))
      ∙ ap (put_words seen start) (sym
      (placed_is ∙ ap (λ (b : Bool). cond b (merged (ids_of seen start (older count)) more) (ids_of seen start (older count) ++ more)) (eq-eqb (length more) newest lm)))

-- ids copied to the front of another table, then listed
pub copied_listed : (own out l₁ l₂ : List ℕ) (n : ℕ) → length own ≡ n → l₁ ≡ own ++ drop n out → l₂ ≡ listed (take n l₁) ++ drop n l₁ → l₂ ≡ listed own ++ drop n out
copied_listed own out l₁ l₂ n h p q =
    q ∙ ap (λ (x : List ℕ). listed (take n x) ++ drop n x) p ∙ ap₂ (λ (x y : List ℕ). listed x ++ y) (take_at own (drop n out) n h) (drop_at own (drop n out) n h)
