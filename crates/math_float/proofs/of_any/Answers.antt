use mathlib.Core.Path.{◌≡◌, refl, sym, ◌∙◌, subst}
use mathlib.Core.Bool.{Bool, true, false, not}
use Prim.Native.Nat.{ℕ, ◌%◌, ◌^◌, ◌<◌, ◌≤◌, ◌-◌}
use borrow.Author.Tests.{lt-ltb, le-ltb}
use lib.Dec.{T}
use lib.Bits.{bit_and, and_mask}
use lib.Ieee.{Float, nan, inf, fin, binary64, nan_bits, is_nan, of_bits}
use lib.Ieee.Bits.{nan_bits_above, nan_bits_is}
use Rattle.math_float.proofs.of_any.Goals as goal

-- every pattern of 64 bits as a float: nan_bits_above says where the NaN patterns are

yes : (n : ℕ) → 0x7ff0_0000_0000_0000 < bit_and n (2 ^ 63 - 1) → nan_bits binary64 n ≡ true
yes n h = nan_bits_above binary64 n ∙ lt-ltb 0x7ff0_0000_0000_0000 (n % 2 ^ 63) (subst (λ (k : ℕ). 0x7ff0_0000_0000_0000 < k) (and_mask n 63) h)

no : (n : ℕ) → bit_and n (2 ^ 63 - 1) ≤ 0x7ff0_0000_0000_0000 → nan_bits binary64 n ≡ false
no n h = nan_bits_above binary64 n ∙ le-ltb 0x7ff0_0000_0000_0000 (n % 2 ^ 63) (subst (λ (k : ℕ). k ≤ 0x7ff0_0000_0000_0000) (and_mask n 63) h)

only : (x : Float) → is_nan x ≡ true → nan ≡ x
unfolding is_nan
only nan h = refl
only (inf s) h = absurd (subst T (sym h) tt)
only (fin s m e) h = absurd (subst T (sym h) tt)

the_nan : of_bits binary64 9221120237041090560 ≡ nan
unfolding of_bits
the_nan = refl

pub float_from_bits-result : goal.float_from_bits-result
float_from_bits-result c = subst (λ (b : Bool). T (not b)) (sym (no c.args.n c.if-n-gt9218868437227405312.false)) tt

pub returns-then-n-gt9218868437227405312 : goal.returns-then-n-gt9218868437227405312
returns-then-n-gt9218868437227405312 c = the_nan ∙ only (of_bits binary64 c.args.n) (sym (nan_bits_is binary64 c.args.n) ∙ yes c.args.n c.if-n-gt9218868437227405312.true)
