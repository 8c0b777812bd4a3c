-- Rows moved, then rows written: the pool with a chain's rows anew.
use mathlib.Core.Path.{◌≡◌, sym, ap, ◌∙◌}
use Prim.Native.Nat.{ℕ, ◌+◌, ◌-◌, ◌≤◌}
use native.Mathlib.Omega.{arith}
use mathlib.Core.List.{List, ◌++◌}
use lib.ListN.{length, take, drop}
use lib.Seq.{length-take-le, take-append-le, take-take, drop-drop}
use Rattle.table_shift.specs.Shift.{opened, closed}
use Rattle.call_keeping.specs.Copied.{stored_at}
use Rattle.call_keeping.proofs.Laws.{drop_exact}
use Rattle.call_pooling.specs.Pooling.{put_back}

-- rows over the last of the words in front of x
stored_over : (pool x rows : List ℕ) (s n : ℕ) → n ≡ s + length rows → n ≤ length pool → stored_at (take n pool ++ x) s rows ≡ take s pool ++ (rows ++ x)
unfolding stored_at
stored_over pool x rows s n e h =
    let l : length (take n pool) ≡ n = length-take-le n pool h in
    let a : take s (take n pool ++ x) ≡ take s pool = take-append-le s (take n pool) x (omega arith) ∙ take-take s n pool (omega arith) in
    let b : drop (length rows) (drop s (take n pool ++ x)) ≡ x =
    drop-drop (length rows) s (take n pool ++ x) ∙ ap (λ (k : ℕ). drop k (take n pool ++ x)) (sym e ∙ sym l) ∙ drop_exact (take n pool) x in
    (λ j. a j ++ (rows ++ b j))

pub grown : (pool q r rows : List ℕ) (s o z : ℕ) → s + o ≤ z → o ≤ length rows → z + (length rows - o) ≤ length pool
    → q ≡ opened pool (s + o) z (length rows - o) → r ≡ stored_at q s rows → r ≡ put_back pool s o z rows
unfolding opened put_back
grown pool q r rows s o z h k m e f =
    let d : z + (length rows - o) ≡ z - o + length rows = omega arith in
    f ∙ ap (λ (l : List ℕ). stored_at l s rows) e
    ∙ stored_over pool _ rows s (s + o + (length rows - o)) (omega arith) (omega arith)
    ∙ ap (λ (n : ℕ). take s pool ++ (rows ++ (take (z - (s + o)) (drop (s + o) pool) ++ drop n pool))) d

pub shrunk : (pool q r rows : List ℕ) (s o z : ℕ) → s + o ≤ z → length rows ≤ o → z ≤ length pool
    → q ≡ closed pool (s + o) z (o - length rows) → r ≡ stored_at q s rows → r ≡ put_back pool s o z rows
unfolding closed put_back
shrunk pool q r rows s o z h k m e f =
    let d : z - (o - length rows) ≡ z - o + length rows = omega arith in
    f ∙ ap (λ (l : List ℕ). stored_at l s rows) e
    ∙ stored_over pool _ rows s (s + o - (o - length rows)) (omega arith) (omega arith)
    ∙ ap (λ (n : ℕ). take s pool ++ (rows ++ (take (z - (s + o)) (drop (s + o) pool) ++ drop n pool))) d
