-- The marks of many tills in one table: a count for each till, then `slots` places for each. The table after a till's ids were written anew, at the front of
-- its places, with their number. Assumes nothing.
use mathlib.Core.Path.{◌≡◌, refl, sym, ap, ◌∙◌, subst}
use mathlib.Core.Bool.{Bool, true, false}
use mathlib.Core.List.{List}
use Prim.Native.Nat.{ℕ, ◌+◌, ◌*◌, ◌≤◌, ◌<◌}
use native.Mathlib.Nat.{mul-le-mul_right, add-mul}
use native.Mathlib.Omega.{arith}
use lib.Dec.{eqb}
use lib.ListN.{length, get_or, set, take, drop, length-set}
use lib.Seq.{get_or-set_same, get_or-set_other, get_or-take, get_or-drop}
use borrow.Author.Tests.{eqb-true, eqb-false}
use Rattle.table_shift.specs.Shift.{put_words}
use Rattle.table_shift.proofs.Laws.{length_put}
use Rattle.table_shift.proofs.Parts.{put_before}

-- a till's places end within the table
pub places_end : (tills slots t : ℕ) → t < tills → tills + t * slots + slots ≤ tills + tills * slots
places_end tills slots t h = let k : (t + 1) * slots ≤ tills * slots = mul-le-mul_right slots (omega arith) in omega (arith, add-mul t 1 slots, k)

module _ (tills slots : ℕ) (seen : List ℕ) (size : tills + tills * slots ≤ length seen) (t : ℕ) (ids : List ℕ) (b : t < tills) (few : length ids ≤ slots) where
  pub ids_room : tills + t * slots + length ids ≤ length seen
  ids_room = omega (arith, places_end tills slots t b, size, few)

  abbrev pub put : List ℕ
  put = put_words seen (tills + t * slots) ids

  abbrev pub after : List ℕ
  after = set put t (length ids)

  pub after_length : length after ≡ length seen
  after_length = length-set put t (length ids) ∙ length_put seen (tills + t * slots) ids ids_room

  -- a count before the places is no id
  before : (k : ℕ) → k < tills → get_or put k 0 ≡ get_or seen k 0
  before k h =
      let own : (w : List ℕ) → get_or (take 1 (drop k w)) 0 0 ≡ get_or w (k + 0) 0 = λ w. get_or-take 1 (drop k w) 0 0 (omega arith) ∙ get_or-drop k w 0 0 in
      let e : k + 0 ≡ k = omega arith in
      subst (λ (i : ℕ). get_or put i 0 ≡ get_or seen i 0) e
      (sym (own put) ∙ ap (λ (x : List ℕ). get_or x 0 0) (put_before seen (tills + t * slots) ids k 1 (omega arith) (omega (arith, ids_room))) ∙ own seen)

  pub count_here : get_or after t 0 ≡ length ids
  count_here = get_or-set_same put t (length ids) 0 (omega (arith, length_put seen (tills + t * slots) ids ids_room, size))

  pub count_there : (k : ℕ) → k < tills → (k ≡ t → ⊥) → get_or after k 0 ≡ get_or seen k 0
  count_there k h n = get_or-set_other put t k (length ids) 0 n ∙ before k h

  -- counts stay within the slots
  pub counts_within : ((k : ℕ) → k < tills → get_or seen k 0 ≤ slots) → (k : ℕ) → k < tills → get_or after k 0 ≤ slots
  counts_within f k h = go (eqb k t) refl
    where
      go : (x : Bool) → eqb k t ≡ x → get_or after k 0 ≤ slots
      go true p = rw (eqb-true k t p, count_here) few
      go false p = rw (count_there k h (eqb-false k t p)) (f k h)
