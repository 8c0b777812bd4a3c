-- Ladders of tests: the way down a chain of `&&` or of `cond`, and what a ladder that was passed says. Assumes nothing.
use mathlib.Core.Path.{◌≡◌, refl, sym, ◌∙◌}
use mathlib.Core.Bool.{Bool, true, false, cond, ◌&&◌, false≢true}
use Prim.Native.Nat.{ℕ, suc}
use native.Mathlib.Nat.{suc-ne-zero}
use Rattle.fault_rule.proofs.Laws as rule

-- ---- Questions with numbers: `first_no` is a chain of `cond`

-- a question that is answered "yes"
pub yes : {A : Type 0} (b : Bool) (r x y : A) → b ≡ true → r ≡ x → r ≡ cond b x y
yes b r x y e h = rule.yes b r x y e h

-- the question that is answered "no"
pub no : {A : Type 0} (b : Bool) (r x y : A) → b ≡ false → r ≡ y → r ≡ cond b x y
no b r x y e h = rule.no b r x y e h

-- a ladder that ends in 0 has passed its first question
pub under : (b : Bool) (x k : ℕ) → cond b x (suc k) ≡ 0 → (b ≡ true) × (x ≡ 0)
under true x k h = (refl, h)
under false x k h = absurd (suc-ne-zero k h)

-- ---- Tests of one question: `every` is a chain of `&&`

-- a test that is passed
pub on : (a r b : Bool) → a ≡ true → r ≡ b → r ≡ (a && b)
on true r b e h = h
on false r b e h = absurd (false≢true e)

-- the test that fails
pub off : (a b : Bool) → a ≡ false → false ≡ (a && b)
off true b e = absurd (false≢true (sym e))
off false b e = refl

-- the last test
pub last : (r a : Bool) → r ≡ a → r ≡ (a && true)
last r true e = e
last r false e = e

-- both were passed
pub both : (a b : Bool) → (a && b) ≡ true → (a ≡ true) × (b ≡ true)
both true b e = (refl, e)
both false b e = absurd (false≢true e)

pub only : (a : Bool) → (a && true) ≡ true → a ≡ true
only true e = refl
only false e = e

-- a call's result r is the test b, and it was true or false
pub told : (r b v : Bool) → r ≡ b → r ≡ v → b ≡ v
told r b v e h = sym e ∙ h

pub is_no : (r b : Bool) → r ≡ b → r ≡ false → b ≡ false
is_no r b e h = told r b false e h

pub is_yes : (r b : Bool) → r ≡ b → r ≡ true → b ≡ true
is_yes r b e h = told r b true e h
