-- The place of a copy, looked for from the back, and what the moves and the store leave; the due copies, from the front. Assumes nothing.
use mathlib.Core.Path.{◌≡◌, refl, ap, ◌∙◌}
use mathlib.Core.List.{List, [], ◌∷◌, ◌++◌}
use mathlib.Core.Bool.{Bool, true, false, cond, not, ◌||◌}
use Prim.Native.Nat.{ℕ, zero, suc, ◌+◌, ◌*◌, ◌≤◌}
use native.Mathlib.Omega.{arith}
use lib.ListN.{length, take, drop}
use Rattle.table_shift.specs.Shift.{put_words, opened}
use Rattle.table_shift.proofs.Laws.{opened_put}
use Rattle.table_rows.specs.Lists.{past}
use Rattle.table_rows.proofs.Fronts.{last_in}
use Rattle.table_rows.specs.Table.{over}
use Rattle.table_rows.proofs.Table.{over_inserted}
use Rattle.table_waiting.specs.declared.Copy.{Copy}
use Rattle.table_waiting.specs.Waiting.{width, words, form, copies, before, passes, exact, insert_copy, place_of}

module _ (c : Copy) where
  -- the insertion is at that place
  pub place_inserts : (rs : List Copy) → take (place_of c rs) rs ++ (c ∷ drop (place_of c rs) rs) ≡ insert_copy c rs
  place_inserts [] = refl
  place_inserts (r ∷ rs) = go (not (before c r)) (place_of c rs) (passes c rs) (place_passes rs) (place_inserts rs)
    where
      some : ℕ → Bool
      some zero = false
      some (suc p) = true

      place_passes : (l : List Copy) → some (place_of c l) ≡ passes c l
      place_passes [] = refl
      place_passes (x ∷ l) = step (not (before c x)) (place_of c l) (passes c l) (place_passes l)
        where
          step : (b : Bool) (p : ℕ) (s : Bool) → some p ≡ s → some (past b p) ≡ (b || s)
          step true zero s e = refl
          step false zero s e = e
          step true (suc p) s e = refl
          step false (suc p) s e = e

      go : (b : Bool) (p : ℕ) (s : Bool) → some p ≡ s → take p rs ++ (c ∷ drop p rs) ≡ insert_copy c rs
          → take (past b p) (r ∷ rs) ++ (c ∷ drop (past b p) (r ∷ rs)) ≡ cond (b || s) (r ∷ insert_copy c rs) (c ∷ r ∷ rs)
      go true zero s e h = ap (λ (l : List Copy). r ∷ l) h
      go false zero s e h = ap (λ (x : Bool). cond x (r ∷ insert_copy c rs) (c ∷ r ∷ rs)) e
      go true (suc p) s e h = ap (λ (l : List Copy). r ∷ l) h
      go false (suc p) s e h = ap (λ (l : List Copy). r ∷ l) h ∙ ap (λ (x : Bool). cond x (r ∷ insert_copy c rs) (c ∷ r ∷ rs)) e

  module _ (ws : List ℕ) (n : ℕ) where
    pub place_in : place_of c (copies ws n) ≤ n
    place_in = last_in form (λ (r : Copy). not (before c r)) ws n

-- what `insert` leaves
pub inserted : (ws : List ℕ) (n : ℕ) (c : Copy) (p : ℕ) (l : List ℕ) → (n + 1) * width ≤ length ws → p ≡ place_of c (copies ws n) → l ≡ opened ws (p * width) (n * width) width
    → put_words l (p * width) (words c) ≡ over form (insert_copy c (copies ws n)) ws
inserted ws n c p l room e is =
    let h : p ≤ n = omega (arith, place_in c ws n) in
    ap (λ (x : List ℕ). put_words x (p * width) (words c)) is
    ∙ opened_put ws (p * width) (n * width) width (words c) refl (omega arith) (omega arith)
    ∙ over_inserted form exact ws n p c h room
    ∙ ap (λ (j : ℕ). over form (take j (copies ws n) ++ (c ∷ drop j (copies ws n))) ws) e
    ∙ ap (λ (x : List Copy). over form x ws) (place_inserts c (copies ws n))
