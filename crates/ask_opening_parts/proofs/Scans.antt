-- Scans of a list from the front: what is asked of the whole list is asked of what lies behind i. Assumes nothing.
use mathlib.Core.Path.{◌≡◌, refl, sym, ap, ◌∙◌}
use mathlib.Core.List.{List, [], ◌∷◌}
use mathlib.Core.Bool.{Bool, true, false, not, ◌&&◌, ◌||◌}
use Prim.Native.Nat.{ℕ, ◌+◌, ◌≤◌, ◌<◌}
use native.Mathlib.Numerals.{add-one}
use lib.Dec.{eqb}
use lib.ListN.{length, get_or, drop, drop_of_length-le}
use lib.Seq.{drop-cons}
use lib.Pointwise.{pointwise}
use Rattle.std.specs.List.{list_all}
use Rattle.table_rows.specs.Rows.{all_of}
use Rattle.spec_network.specs.Lists.{same, some_of, unlike}

module _ {A : Type 0} (l : List A) (i : ℕ) (d : A) where
  -- what lies behind i starts with the element at i
  pub behind : i < length l → drop i l ≡ get_or l i d ∷ drop (i + 1) l
  behind h = drop-cons l i d h ∙ ap (λ (k : ℕ). get_or l i d ∷ drop k l) (sym (add-one i))

module _ {A : Type 0} (q : A → Bool) (l : List A) (i : ℕ) (d : A) where
  pub some_next : (b : Bool) → i < length l → q (get_or l i d) ≡ false → b ≡ some_of q (drop i l) → b ≡ some_of q (drop (i + 1) l)
  some_next b h e k = k ∙ ap (some_of q) (behind l i d h) ∙ ap (λ (b : Bool). b || some_of q (drop (i + 1) l)) e

  pub some_stop : (b : Bool) → i < length l → q (get_or l i d) ≡ true → b ≡ some_of q (drop i l) → true ≡ b
  some_stop b h e k = sym (k ∙ ap (some_of q) (behind l i d h) ∙ ap (λ (b : Bool). b || some_of q (drop (i + 1) l)) e)

  pub some_end : (b : Bool) → length l ≤ i → b ≡ some_of q (drop i l) → false ≡ b
  some_end b h k = sym (k ∙ ap (some_of q) (drop_of_length-le l h))

module _ (l : List (List ℕ)) (i : ℕ) where
  pub unlike_next : i < length l → some_of (same (get_or l i [])) (drop (i + 1) l) ≡ false → unlike l ≡ unlike (drop i l) → unlike l ≡ unlike (drop (i + 1) l)
  unlike_next h e k = k ∙ ap unlike (behind l i [] h) ∙ ap (λ (b : Bool). not b && unlike (drop (i + 1) l)) e

  pub unlike_stop : i < length l → some_of (same (get_or l i [])) (drop (i + 1) l) ≡ true → unlike l ≡ unlike (drop i l) → false ≡ unlike l
  unlike_stop h e k = sym (k ∙ ap unlike (behind l i [] h) ∙ ap (λ (b : Bool). not b && unlike (drop (i + 1) l)) e)

  pub unlike_end : length l ≤ i → unlike l ≡ unlike (drop i l) → true ≡ unlike l
  unlike_end h k = sym (k ∙ ap unlike (drop_of_length-le l h))

-- std's `all` and `==` on these lists
pub all_is : {A : Type 0} (q : A → Bool) (l : List A) → list_all q l ≡ all_of q l
all_is q [] = refl
all_is q (x ∷ l) = ap (λ (b : Bool). q x && b) (all_is q l)

pub same_is : (xs ys : List ℕ) → pointwise eqb xs ys ≡ same xs ys
same_is [] [] = refl
same_is [] (y ∷ ys) = refl
same_is (x ∷ xs) [] = refl
same_is (x ∷ xs) (y ∷ ys) = ap (λ (b : Bool). eqb x y && b) (same_is xs ys)
