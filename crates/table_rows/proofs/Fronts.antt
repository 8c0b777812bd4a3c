-- The rows of a form that pass at the front, looked for from the front, and the last that passes, looked for from the back. Assumes nothing.
use mathlib.Core.Path.{◌≡◌, refl, sym, ap, ◌∙◌, subst}
use mathlib.Core.List.{List, [], ◌∷◌, ◌++◌}
use mathlib.Core.Bool.{Bool, true, false, cond, ◌&&◌}
use Prim.Native.Nat.{ℕ, zero, suc, ◌+◌, ◌*◌, ◌-◌, ◌≤◌, ◌<◌}
use Prim.Native.Nat.compare
use native.Mathlib.Nat.{zero-add}
use native.Mathlib.Omega.{arith}
use lib.ListN.{length, drop}
use Rattle.std.specs.Prelude.{nat_eq}
use Rattle.std.proofs.Common.{rules}
use Rattle.std.proofs.lemmas.Grind.{common_steps}
use Rattle.table_rows.specs.Rows.{all_of}
use Rattle.table_rows.specs.Lists.{front, past, through_last}
use Rattle.table_rows.specs.Table.{Form, row_of, rows_of}
use Rattle.table_rows.proofs.Rows.{rows_split, rows_next, rows_first, rows_end_lem, length_rows}

module _ {A : Type 0} (q : A → Bool) where
  pub front_le : (l : List A) → length (front q l) ≤ length l
  front_le [] = omega arith
  front_le (a ∷ l) = go (q a) (front_le l)
    where
      go : (b : Bool) → length (front q l) ≤ length l → length (cond b (a ∷ front q l) []) ≤ suc (length l)
      go true h = omega arith
      go false h = omega arith

  apart : (k n : ℕ) → k < n → nat_eq k n ≡ false
  apart k n h = Prim.search (rules, common_steps)

  same : (k n : ℕ) → k ≡ n → nat_eq k n ≡ true
  same k n e = Prim.search (rules, common_steps)

  -- all pass where as many stand at the front
  pub front_all : (l : List A) → nat_eq (length (front q l)) (length l) ≡ all_of q l
  front_all [] = refl
  front_all (a ∷ l) = go (q a) (front_all l)
    where
      go : (b : Bool) → nat_eq (length (front q l)) (length l) ≡ all_of q l → nat_eq (length (cond b (a ∷ front q l) [])) (suc (length l)) ≡ (b && all_of q l)
      go true h = simp compare.suc-suc h
      go false h = apart 0 (suc (length l)) (omega arith)

  pub last_le : (l : List A) → through_last q l ≤ length l
  last_le [] = omega arith
  last_le (a ∷ l) = go (q a) (through_last q l) (last_le l)
    where
      go : (b : Bool) (p : ℕ) → p ≤ length l → past b p ≤ suc (length l)
      go true zero h = omega arith
      go false zero h = omega arith
      go b (suc p) h = omega arith

  -- one that stands among those behind is the last of all
  pub last_behind : (a b : List A) (m : ℕ) → through_last q b ≡ suc m → through_last q (a ++ b) ≡ length a + suc m
  last_behind [] b m e = e ∙ sym (zero-add (suc m))
  last_behind (r ∷ a) b m e =
      let s : length a + suc m ≡ suc (length a + m) = omega arith in
      let w : suc (suc (length a + m)) ≡ suc (length a) + suc m = omega arith in
      ap (past (q r)) (last_behind a b m e ∙ s) ∙ w

module _ {R : Type 0} (f : Form R) (q : R → Bool) (ws : List ℕ) (n : ℕ) where
  -- the rows from row i on
  abbrev pub from_row : ℕ → List R
  from_row i = rows_of f (drop (i * f.width) ws) (n - i)

  -- i rows pass; those behind decide
  abbrev pub Front : ℕ → Type 0
  Front i = length (front q (rows_of f ws n)) ≡ i + length (front q (from_row i))

  turn : (i : ℕ) → i < n → (b : Bool) → q (row_of f ws i) ≡ b → length (front q (from_row i)) ≡ cond b (suc (length (front q (from_row (i + 1))))) 0
  turn i h b e = ap (λ (l : List R). length (front q l)) (rows_next f.width f.read ws n i h) ∙ go (q (row_of f ws i)) e
    where
      go : (x : Bool) → x ≡ b → length (cond x (row_of f ws i ∷ front q (from_row (i + 1))) []) ≡ cond b (suc (length (front q (from_row (i + 1))))) 0
      go true e = ap (λ (y : Bool). cond y (suc (length (front q (from_row (i + 1))))) 0) e
      go false e = ap (λ (y : Bool). cond y (suc (length (front q (from_row (i + 1))))) 0) e

  pub front_none : Front 0
  front_none = ap (λ (l : List R). length (front q l)) (sym (rows_first f.width f.read ws n)) ∙ sym (zero-add _)

  pub front_more : (i : ℕ) → i < n → q (row_of f ws i) ≡ true → Front i → Front (i + 1)
  front_more i h e d = let t = turn i h true e in omega (arith, t, d)

  pub front_here : (i : ℕ) → i < n → q (row_of f ws i) ≡ false → Front i → i ≡ length (front q (rows_of f ws n))
  front_here i h e d = let t = turn i h false e in omega (arith, t, d)

  pub front_end : (i : ℕ) → n ≤ i → Front i → i ≡ length (front q (rows_of f ws n))
  front_end i h d = let t = ap (λ (l : List R). length (front q l)) (rows_end_lem f.width f.read ws n i h) in omega (arith, t, d)

  -- do all pass? not where row i fails; yes where none is left
  pub all_failed : (i : ℕ) → i < n → q (row_of f ws i) ≡ false → Front i → false ≡ all_of q (rows_of f ws n)
  all_failed i h e d =
      let k = front_here i h e d in
      let l = length_rows f.width f.read n ws in
      sym (apart q _ _ (omega (arith, k, l))) ∙ front_all q (rows_of f ws n)

  pub all_passed : (i : ℕ) → n ≤ i → i ≤ n → Front i → true ≡ all_of q (rows_of f ws n)
  all_passed i h m d =
      let k = front_end i h d in
      let l = length_rows f.width f.read n ws in
      sym (same q _ _ (omega (arith, k, l))) ∙ front_all q (rows_of f ws n)

  -- none passes from row i on
  abbrev pub NoneFrom : ℕ → Type 0
  NoneFrom i = through_last q (from_row i) ≡ 0

  pub last_none : NoneFrom n
  last_none = ap (through_last q) (rows_end_lem f.width f.read ws n n (omega arith))

  last_turn : (i : ℕ) → i < n → NoneFrom (i + 1) → (b : Bool) → q (row_of f ws i) ≡ b → through_last q (from_row i) ≡ cond b 1 0
  last_turn i h a b e =
      ap (through_last q) (rows_next f.width f.read ws n i h)
      ∙ ap (λ (x : Bool). past x (through_last q (from_row (i + 1)))) e
      ∙ ap (past b) a

  pub last_passed : (i : ℕ) → 0 < i → i ≤ n → q (row_of f ws (i - 1)) ≡ false → NoneFrom i → NoneFrom (i - 1)
  last_passed i h k e a = let m : i ≡ i - 1 + 1 = omega arith in last_turn (i - 1) (omega arith) (subst (λ (j : ℕ). NoneFrom j) m a) false e

  pub last_here : (i : ℕ) → 0 < i → i ≤ n → q (row_of f ws (i - 1)) ≡ true → NoneFrom i → i - 1 + 1 ≡ through_last q (rows_of f ws n)
  last_here i h k e a =
      let m : i ≡ i - 1 + 1 = omega arith in
      let l : length (rows_of f ws (i - 1)) ≡ i - 1 = length_rows f.width f.read (i - 1) ws in
      let p = last_behind q (rows_of f ws (i - 1)) (from_row (i - 1)) 0 (last_turn (i - 1) (omega arith) (subst (λ (j : ℕ). NoneFrom j) m a) true e) in
      let s = ap (through_last q) (rows_split f.width f.read ws n (i - 1) (omega arith)) in
      omega (arith, l, p, s)

  pub last_first : NoneFrom 0 → 0 ≡ through_last q (rows_of f ws n)
  last_first a = sym (sym (ap (through_last q) (rows_first f.width f.read ws n)) ∙ a)

  pub last_in : through_last q (rows_of f ws n) ≤ n
  last_in = omega (arith, last_le q (rows_of f ws n), length_rows f.width f.read n ws)
