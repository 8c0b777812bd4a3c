-- laws of the draws that give a real number or a hit
use Prim.Native.Nat.{ℕ}
use mathlib.Core.Path.{◌≡◌, refl, ap, ◌∙◌}
use mathlib.Core.Bool.{true, false}
use mathlib.Core.List.{List}
use native.Mathlib.Omega.{arith}
use lib.Ieee.{Float, lt}
use Rattle.math_float.specs.Float.{zero64}
use Rattle.rand_streams.specs.declared.Cursor.{Cursor}
use Rattle.rand_streams.specs.Streams.{Moved, word_pair}
use Rattle.rand_draw.specs.Fraction.{fraction, fraction_at, hits_at, hit_words}
use Rattle.rand_draw.specs.Real.{real_of, real_at}
use Rattle.rand_draw.proofs.Laws.{moved_as}

pub fraction_at_lem : (key : List ℕ) (count : ℕ) {d : ℕ} {x : Float} → d ≡ word_pair key count → x ≡ fraction d → x ≡ fraction_at key count
unfolding fraction_at
fraction_at_lem key count p q = q ∙ ap fraction p

pub real_at_lem : (key : List ℕ) (count : ℕ) (low high : Float) {d : ℕ} {x : Float} → d ≡ word_pair key count → x ≡ real_of low high d → x ≡ real_at key count low high
unfolding real_at
real_at_lem key count low high p q = q ∙ ap (real_of low high) p

-- no word is taken
pub moved_none : (c : Cursor) → Moved c 0 c
moved_none c = record { key = refl; count = omega arith }

-- a rate above 0 is drawn against; any other, a NaN too, is not
module _ (c d : Cursor) (rate : Float) where
  pub drawn : {x : Float} → lt zero64 rate ≡ true → x ≡ fraction_at c.key c.count → Moved c 2 d
      → (lt x rate ≡ hits_at c.key c.count rate) × Moved c (hit_words rate) d
  unfolding hits_at hit_words
  drawn h e m = (rw h (ap (λ y. lt y rate) e), moved_as c d 2 _ (rw h) m)

  pub undrawn : lt zero64 rate ≡ false → (false ≡ hits_at c.key c.count rate) × Moved c (hit_words rate) c
  unfolding hits_at hit_words
  undrawn h = (rw h, moved_as c c 0 _ (rw h) (moved_none c))
