-- One word of one row written, and the length of a table whose rows were kept, over any width S.
use mathlib.Core.Path.{◌≡◌, sym, ap, ◌∙◌}
use mathlib.Core.List.{List, ◌∷◌, ◌++◌}
use Prim.Native.Nat.{ℕ, ◌+◌, ◌*◌, ◌≤◌, ◌<◌}
use native.Mathlib.Nat.{add-mul, mul-le-mul_right}
use native.Mathlib.Omega.{arith}
use lib.ListN.{length, take, drop, set, length-set, length-drop, take-append-drop}
use lib.Seq.{drop-drop, length-take-le, take-set-le, take-set-lt, drop-set-lt, drop-set-add}
use Rattle.table_rows.specs.Rows.{rows}
use Rattle.table_rows.proofs.Rows.{rows_put}

-- a store at word j of the S words from b
set_part : (ws : List ℕ) (S b j v : ℕ) → j < S → set ws (b + j) v ≡ take b ws ++ (set (take S (drop b ws)) j v ++ drop (b + S) ws)
set_part ws S b j v h =
    let e : S + b ≡ b + S = omega arith in
    sym (take-append-drop b (set ws (b + j) v))
    ∙ ap (λ (l : List ℕ). l ++ drop b (set ws (b + j) v)) (take-set-le b ws (b + j) v (omega arith))
    ∙ ap (λ (l : List ℕ). take b ws ++ l)
    (drop-set-add b ws j v
    ∙ sym (take-append-drop S (set (drop b ws) j v))
    ∙ ap (λ (l : List ℕ). l ++ drop S (set (drop b ws) j v)) (take-set-lt S (drop b ws) j v h)
    ∙ ap (λ (l : List ℕ). set (take S (drop b ws)) j v ++ l) (drop-set-lt S (drop b ws) j v h ∙ drop-drop S b ws))

module _ {R : Type 0} (S : ℕ) (read : List ℕ → R) (alone : (l m : List ℕ) → S ≤ length l → read (l ++ m) ≡ read l) where
  -- the row at p, its word j written; what is read of the other rows stays
  pub rows_set : (ws : List ℕ) (n p j v : ℕ) → j < S → p < n → n * S ≤ length ws
      → rows S read (set ws (p * S + j) v) n ≡ take p (rows S read ws n) ++ (read (set (take S (drop (p * S) ws)) j v) ∷ drop (p + 1) (rows S read ws n))
  rows_set ws n p j v h l room =
      let q : (p + 1) * S ≤ n * S = mul-le-mul_right S (omega arith) in
      let k : S ≤ length (drop (p * S) ws) = rw length-drop (omega (arith, q, add-mul p 1 S)) in
      ap (λ (x : List ℕ). rows S read x n) (set_part ws S (p * S) j v h)
      ∙ rows_put S read alone ws (set (take S (drop (p * S) ws)) j v) n p (length-set (take S (drop (p * S) ws)) j v ∙ length-take-le S (drop (p * S) ws) k) l room
