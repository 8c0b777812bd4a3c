-- Tables filled from the front, cell by cell and row by row. Assumes nothing.
use mathlib.Core.Path.{◌≡◌, refl, sym, ap, ◌∙◌}
use mathlib.Core.List.{List, [], ◌∷◌, ◌++◌, append_assoc, append-nil}
use Prim.Native.Nat.{ℕ, zero, suc, ◌+◌, ◌*◌, ◌<◌}
use native.Mathlib.Nat.{suc-mul, zero-mul}
use native.Mathlib.Omega.{arith}
use lib.ListN.{length, get_or, take, drop, set, length-append, drop_of_length-le}
use lib.Seq.{drop-cons, set_at, append_snoc, take_at, drop-append-add, drop-drop}
use Rattle.table_rows.specs.Rows.{flat}
use Rattle.table_rows.specs.Lists.{up_to}
use Rattle.table_shift.specs.Shift.{put_words}

-- one cell more: a stands in front of what was there
pub cell_more : (a l now : List ℕ) (i v : ℕ) → length a ≡ i → i < length l → now ≡ a ++ drop i l → set now i v ≡ (a ++ (v ∷ [])) ++ drop (i + 1) l
cell_more a l now i v n h e =
    let s : suc i ≡ i + 1 = omega arith in
    ap (λ (x : List ℕ). set x i v) (e ∙ ap (λ (x : List ℕ). a ++ x) (drop-cons l i 0 h))
    ∙ set_at a (get_or l i 0) (drop (suc i) l) v i n
    ∙ sym (append_snoc a v (drop (suc i) l))
    ∙ ap (λ (k : ℕ). (a ++ (v ∷ [])) ++ drop k l) s

-- one more of a list by places
pub up_to_more : {A : Type 0} (n : ℕ) (f : ℕ → A) → up_to (n + 1) f ≡ up_to n f ++ (f n ∷ [])
up_to_more {A} n f = ap (λ (k : ℕ). up_to k f) (let s : n + 1 ≡ suc n = omega arith in s) ∙ go n f
  where
    go : (n : ℕ) (f : ℕ → A) → up_to (suc n) f ≡ up_to n f ++ (f n ∷ [])
    go zero f = refl
    go (suc n) f = ap (λ (l : List A). f 0 ∷ l) (go n (λ k. f (suc k)))

-- one row more
module _ {R : Type 0} (w : ℕ) (f : R → List ℕ) (long : (r : R) → length (f r) ≡ w) where
  length_rows : (rs : List R) → length (flat f rs) ≡ length rs * w
  length_rows [] = sym (zero-mul w)
  length_rows (r ∷ rs) = length-append (f r) (flat f rs) ∙ omega (arith, long r, length_rows rs, suc-mul (length rs) w)

  flat_more : (rs : List R) (e : R) → flat f (rs ++ (e ∷ [])) ≡ flat f rs ++ f e
  flat_more [] e = append-nil (f e)
  flat_more (r ∷ rs) e = ap (λ (x : List ℕ). f r ++ x) (flat_more rs e) ∙ sym (append_assoc (f r) (flat f rs) (f e))

  pub row_more : (rs : List R) (ws now : List ℕ) (n : ℕ) (e : R) → length rs ≡ n → now ≡ flat f rs ++ drop (n * w) ws
      → put_words now (n * w) (f e) ≡ flat f (rs ++ (e ∷ [])) ++ drop ((n + 1) * w) ws
  unfolding put_words
  row_more rs ws now n e h q =
      let a : List ℕ = flat f rs in
      let la : length a ≡ n * w = length_rows rs ∙ ap (λ (k : ℕ). k * w) h in
      let b : n * w + length (f e) ≡ length a + w = omega (arith, la, long e) in
      let m : n * w + w ≡ (n + 1) * w = omega (arith, suc-mul n w) in
      ap (λ (x : List ℕ). take (n * w) x ++ (f e ++ drop (n * w + length (f e)) x)) q
      ∙ (λ j. take_at a (drop (n * w) ws) (n * w) la j ++ (f e ++ drop (b j) (a ++ drop (n * w) ws)))
      ∙ ap (λ (x : List ℕ). a ++ (f e ++ x)) (drop-append-add a (drop (n * w) ws) w ∙ drop-drop w (n * w) ws ∙ ap (λ (k : ℕ). drop k ws) m)
      ∙ sym (append_assoc a (f e) (drop ((n + 1) * w) ws))
      ∙ ap (λ (x : List ℕ). x ++ drop ((n + 1) * w) ws) (sym (flat_more rs e))

  pub rows_none : (ws : List ℕ) → ws ≡ flat f [] ++ drop (0 * w) ws
  rows_none ws = sym (ap (λ (k : ℕ). drop k ws) (zero-mul w))

  pub rows_all : (rs : List R) (ws now : List ℕ) (n k : ℕ) → n ≡ k → length ws ≡ k * w → now ≡ flat f rs ++ drop (n * w) ws → now ≡ flat f rs
  rows_all rs ws now n k e h q =
      q ∙ ap (λ (j : ℕ). flat f rs ++ drop (j * w) ws) e ∙ ap (λ (x : List ℕ). flat f rs ++ x) (drop_of_length-le ws {i = k * w} (omega arith)) ∙ append-nil (flat f rs)
