-- Tests: what a chain of `&&` says, and a choice by a test that a call answered. Assumes nothing.
use mathlib.Core.Path.{◌≡◌, refl, sym}
use mathlib.Core.Bool.{Bool, true, false, cond, not, ◌&&◌, false≢true}
use Prim.Native.Nat.{ℕ, ◌+◌, ◌*◌, ◌/◌, ◌≤◌}
use native.Mathlib.Nat.{div-mul-le_self, mul-le-mul_right}
use native.Mathlib.Omega.{arith}
use lib.Dec.{leb, ltb}
use borrow.Author.Tests.{leb-true, ltb-true}

-- two tests that were passed
pub both : (a b : Bool) → (a && b) ≡ true → (a ≡ true) × (b ≡ true)
both true b e = (refl, e)
both false b e = absurd (false≢true e)

-- a call's answer t is the test b, and the code went on, or not
pub is_no : (t b : Bool) → t ≡ b → not t ≡ true → b ≡ false
is_no true b e h = absurd (false≢true h)
is_no false b e h = sym e

pub is_yes : (t b : Bool) → t ≡ b → not t ≡ false → b ≡ true
is_yes true b e h = sym e
is_yes false b e h = absurd (false≢true (sym h))

pub yes : {A : Type 0} (b : Bool) (r x y : A) → b ≡ true → r ≡ x → r ≡ cond b x y
yes true r x y e h = h
yes false r x y e h = absurd (false≢true e)

pub no : {A : Type 0} (b : Bool) (r x y : A) → b ≡ false → r ≡ y → r ≡ cond b x y
no true r x y e h = absurd (false≢true (sym e))
no false r x y e h = h

-- ---- Rows in a table

pub rows_fit : (len n w : ℕ) → leb n (len / w) ≡ true → n * w ≤ len
rows_fit len n w h =
    let m : n * w ≤ len / w * w = mul-le-mul_right w (leb-true n (len / w) h) in
    omega (arith, m, div-mul-le_self len w)

pub one_more : (len n w : ℕ) → ltb n (len / w) ≡ true → (n + 1) * w ≤ len
one_more len n w h =
    let q : n + 1 ≤ len / w = omega (arith, ltb-true n (len / w) h) in
    let m : (n + 1) * w ≤ len / w * w = mul-le-mul_right w q in
    omega (arith, m, div-mul-le_self len w)
