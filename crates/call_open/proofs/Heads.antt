-- Tables of which the opening clears all, or the front. Assumes nothing.
use mathlib.Core.Path.{◌≡◌, ap, ◌∙◌}
use mathlib.Core.List.{List, ◌++◌, append-nil}
use Prim.Native.Nat.{ℕ}
use native.Mathlib.Omega.{arith}
use lib.ListN.{length, drop, replicate, drop_of_length-le}
use Rattle.table_log.specs.Log as log

pub all_clear : (n : ℕ) (l last : List ℕ) → length l ≡ n → last ≡ replicate n 0 ++ drop n l → last ≡ replicate n 0
all_clear n l last h e = e ∙ ap (λ (x : List ℕ). replicate n 0 ++ x) (drop_of_length-le l {i = n} (omega arith)) ∙ append-nil (replicate n 0)

pub log_clear : (l last : List ℕ) → last ≡ replicate log.records_at 0 ++ drop log.records_at l → last ≡ log.cleared_at l
unfolding log.cleared_at
log_clear l last e = e
