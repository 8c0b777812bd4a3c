-- The ways out of `stopped`, over plain truth values. Assumes nothing.
use mathlib.Core.Path.{◌≡◌, refl, sym}
use mathlib.Core.Bool.{Bool, true, false, not, ◌||◌, false≢true}

pub sender_down : (a b c : Bool) → a ≡ false → true ≡ (not a || not b || c)
sender_down true b c e = absurd (false≢true (sym e))
sender_down false b c e = refl

pub till_down : (a b c : Bool) → a ≡ true → b ≡ false → true ≡ (not a || not b || c)
till_down true true c e f = absurd (false≢true (sym f))
till_down true false c e f = refl
till_down false b c e f = absurd (false≢true e)

pub both_up : (a b c r : Bool) → a ≡ true → b ≡ true → r ≡ c → r ≡ (not a || not b || c)
both_up true true c r e f h = h
both_up true false c r e f h = absurd (false≢true f)
both_up false b c r e f h = absurd (false≢true e)
