-- The table after a till's ids were written: no ids where its count is 0, and those of the others. Assumes nothing.
use mathlib.Core.Path.{◌≡◌, refl, ap}
use mathlib.Core.List.{List, []}
use mathlib.Core.Logic.{⊎_elim, ◌⊎◌}
use Prim.Native.Nat.{ℕ, ◌+◌, ◌≤◌}
use native.Mathlib.Omega.{arith}
use lib.ListN.{length, take}
use Rattle.table_shift.specs.Shift.{put_words}
use Rattle.table_shift.proofs.Parts.{put_before, put_behind}
use Rattle.table_marks.specs.Marks.{ids_of}

-- no marks: a till whose count is 0
pub emptied : (seen : List ℕ) (start : ℕ) → ids_of seen start 0 ≡ []
emptied seen start = refl

-- the ids of another till stay: its part ends before this one's, or starts behind the words put
pub others : (seen : List ℕ) (start : ℕ) (v : List ℕ) (other n : ℕ) → start + length v ≤ length seen → (other + n ≤ start) ⊎ (start + length v ≤ other)
    → ids_of (put_words seen start v) other n ≡ ids_of seen other n
others seen start v other n room apart =
    ⊎_elim
    (λ a. put_before seen start v other n a (omega arith))
    (λ a. ap (take n) (put_behind seen start v other a room))
    apart
