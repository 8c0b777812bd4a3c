-- A scan of a list from the front: i elements have passed. Assumes nothing.
use mathlib.Core.Path.{◌≡◌, refl, sym, ap, ◌∙◌}
use mathlib.Core.List.{List, [], ◌∷◌}
use mathlib.Core.Bool.{Bool, true, false, ◌&&◌, false≢true}
use Prim.Native.Nat.{ℕ, zero, suc, ◌+◌, ◌≤◌, ◌<◌}
use native.Mathlib.Numerals.{add-one}
use native.Mathlib.Omega.{arith}
use lib.ListN.{length, get_or, take}
use lib.Seq.{take_all}
use Rattle.table_rows.specs.Rows.{all_of}

module _ {R : Type 0} (q : R → Bool) (d : R) where
  more : (l : List R) (i : ℕ) → i < length l → all_of q (take i l) ≡ true → q (get_or l i d) ≡ true → all_of q (take (suc i) l) ≡ true
  more [] i h a e = refl
  more (x ∷ l) zero h a e = ap (λ (b : Bool). b && true) e
  more (x ∷ l) (suc i) h a e = go (q x) a (λ k. more l i (omega arith) k e)
    where
      go : (b : Bool) → (b && all_of q (take i l)) ≡ true → (all_of q (take i l) ≡ true → all_of q (take (suc i) l) ≡ true) → (b && all_of q (take (suc i) l)) ≡ true
      go true k f = f k
      go false k f = absurd (false≢true k)

  -- one more passes
  pub pass_more : (l : List R) (i : ℕ) → i < length l → q (get_or l i d) ≡ true → all_of q (take i l) ≡ true → all_of q (take (i + 1) l) ≡ true
  pass_more l i h e a = ap (λ (k : ℕ). all_of q (take k l)) (add-one i) ∙ more l i h a e

  -- one does not
  pub pass_stop : (l : List R) (i : ℕ) → i < length l → q (get_or l i d) ≡ false → false ≡ all_of q l
  pass_stop [] i h e = absurd (omega arith)
  pass_stop (x ∷ l) zero h e = sym (ap (λ (b : Bool). b && all_of q l) e)
  pass_stop (x ∷ l) (suc i) h e = go (q x) (pass_stop l i (omega arith) e)
    where
      go : (b : Bool) → false ≡ all_of q l → false ≡ (b && all_of q l)
      go true k = k
      go false k = refl

  -- all have passed
  pub pass_all : (l : List R) (i : ℕ) → length l ≤ i → all_of q (take i l) ≡ true → true ≡ all_of q l
  pass_all l i h a = sym (ap (all_of q) (sym (take_all i l h)) ∙ a)

  -- what a scan that passed says of each
  pub pass_at : (l : List R) (i : ℕ) → i < length l → all_of q l ≡ true → q (get_or l i d) ≡ true
  pass_at l i h a = go (q (get_or l i d)) refl
    where
      go : (b : Bool) → q (get_or l i d) ≡ b → b ≡ true
      go true e = refl
      go false e = absurd (false≢true (pass_stop l i h e ∙ a))
