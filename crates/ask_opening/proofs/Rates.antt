-- Rates and their bits: bits keep a float's value, so the tests of question 3 may be asked of the float; and every NaN is refused. Assumes nothing.
use mathlib.Core.Path.{◌≡◌, refl, sym, ap, ◌∙◌}
use mathlib.Core.Bool.{Bool, true, false, false≢true}
use Prim.Native.Nat.{ℕ}
use lib.Dec.{T}
use lib.Ieee.{Float, nan, inf, fin, binary64, fits, is_nan, le, eq}
use lib.Ieee.Bits.{of_bits-to_bits}
use Rattle.link_latency.specs.Admitted.{fraction_admitted, rate_admitted}
use Rattle.spec_network.specs.Limits.{rate_of}
use Rattle.ask_opening.specs.Given.{bits_of}

pub kept : (x : Float) → T (fits binary64 x) → rate_of (bits_of x) ≡ x
kept x h = of_bits-to_bits binary64 x h

module _ (q : Float → Bool) where
  pub asked : (x : Float) (r b : Bool) → T (fits binary64 x) → r ≡ q x → r ≡ b → q (rate_of (bits_of x)) ≡ b
  asked x r b h e k = ap q (kept x h) ∙ sym e ∙ k

-- whatever pattern a NaN has, question 3 refuses it
is_nan_lem : (x : Float) → is_nan x ≡ true → x ≡ nan
unfolding is_nan
is_nan_lem nan h = refl
is_nan_lem (inf s) h = absurd (false≢true h)
is_nan_lem (fin s m e) h = absurd (false≢true h)

pub nan_refused : (bits : ℕ) → is_nan (rate_of bits) ≡ true → (rate_admitted (rate_of bits) ≡ false) × (fraction_admitted (rate_of bits) ≡ false)
unfolding rate_admitted fraction_admitted le eq
nan_refused bits h = (ap rate_admitted (is_nan_lem (rate_of bits) h), ap fraction_admitted (is_nan_lem (rate_of bits) h))

-- a rate or fraction that question 3 admits is no NaN
none_admitted : (q : Float → Bool) → q nan ≡ false → (x : Float) → q (rate_of (bits_of x)) ≡ true → is_nan x ≡ false
unfolding is_nan fits
none_admitted q n nan h = absurd (false≢true (sym n ∙ ap q (sym (kept nan tt)) ∙ h))
none_admitted q n (inf s) h = refl
none_admitted q n (fin s m e) h = refl

pub rate_is_number : (x : Float) → rate_admitted (rate_of (bits_of x)) ≡ true → is_nan x ≡ false
unfolding rate_admitted le
rate_is_number = none_admitted rate_admitted refl

pub fraction_is_number : (x : Float) → fraction_admitted (rate_of (bits_of x)) ≡ true → is_nan x ≡ false
unfolding fraction_admitted le eq
fraction_is_number = none_admitted fraction_admitted refl
