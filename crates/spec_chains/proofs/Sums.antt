-- Sums over the chains of a bench.
use mathlib.Core.Path.{◌≡◌, refl, ap}
use Prim.Native.Nat.{ℕ, zero, suc, ◌+◌, ◌≤◌, ◌<◌}
use native.Mathlib.Omega.{arith}
use mathlib.Core.Bool.{Bool, true, false, cond}
use lib.Dec.{eqb}
use borrow.Author.Tests.{eqb-true, eqb-false, ne_eqb}
use Rattle.spec_chains.specs.Pool.{sum_below, others_below}

-- a chain that is not among them
all_others : (k i : ℕ) (f : ℕ → ℕ) → k ≤ i → others_below k i f ≡ sum_below k f
all_others zero i f h = refl
all_others (suc k) i f h = rw (ne_eqb k i (λ e. omega arith)) (ap (λ (n : ℕ). f k + n) (all_others k i f (omega arith)))

-- one of them, and the others
pub one_and_others : (k i : ℕ) (f : ℕ → ℕ) → i < k → sum_below k f ≡ f i + others_below k i f
one_and_others zero i f h = absurd (omega arith)
one_and_others (suc k) i f h = go (eqb k i) refl (λ e. all_others k i f (omega arith)) (λ e. one_and_others k i f (omega arith))
  where
    go : (b : Bool) → eqb k i ≡ b → (k ≡ i → others_below k i f ≡ sum_below k f) → ((k ≡ i → ⊥) → sum_below k f ≡ f i + others_below k i f) → f k + sum_below k f ≡ f i + (cond b 0 (f k) + others_below k i f)
    go true e p q = let d : f k ≡ f i = ap f (eqb-true k i e) in omega (arith, d, p (eqb-true k i e))
    go false e p q = omega (arith, q (eqb-false k i e))

-- the others' sum tells nothing of the one
pub others_same : (k i : ℕ) (f g : ℕ → ℕ) → ((j : ℕ) → eqb j i ≡ false → f j ≡ g j) → others_below k i f ≡ others_below k i g
others_same zero i f g h = refl
others_same (suc k) i f g h = go (eqb k i) refl (others_same k i f g h)
  where
    go : (b : Bool) → eqb k i ≡ b → others_below k i f ≡ others_below k i g → cond b 0 (f k) + others_below k i f ≡ cond b 0 (g k) + others_below k i g
    go true e p = omega (arith, p)
    go false e p = omega (arith, h k e, p)

-- each alike: the sums are
pub others_each : (k i : ℕ) (f g : ℕ → ℕ) → ((j : ℕ) → j < k → f j ≡ g j) → others_below k i f ≡ others_below k i g
others_each zero i f g h = refl
others_each (suc k) i f g h = go (eqb k i) (others_each k i f g (λ j l. h j (omega arith)))
  where
    go : (b : Bool) → others_below k i f ≡ others_below k i g → cond b 0 (f k) + others_below k i f ≡ cond b 0 (g k) + others_below k i g
    go true p = omega (arith, p)
    go false p = omega (arith, h k (omega arith), p)

pub sum_each : (k : ℕ) (f g : ℕ → ℕ) → ((j : ℕ) → j < k → f j ≡ g j) → sum_below k f ≡ sum_below k g
sum_each zero f g h = refl
sum_each (suc k) f g h = omega (arith, h k (omega arith), sum_each k f g (λ j l. h j (omega arith)))
