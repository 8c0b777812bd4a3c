use native.Mathlib.Nat.{le_of_lt}
use lib.Dec.{le→leb}
use lib.Pow.{shr_lt}
use Prim.Native.Nat.{◌/◌, ◌^◌}
use borrow.Author.Rules.{rules}
use lib.Ieee.{of_bits, in_float}
use Rattle.rand_draw.specs.Fraction.{fraction}
use Rattle.rand_draw.proofs.fraction.Goals as goal

pub int_to_float-result : goal.int_to_float-result
unfolding in_float
int_to_float-result c = le→leb (c.args.draw / 2 ^ 11) (2 ^ 53) (le_of_lt (shr_lt 53 11 c.ranges.draw.fits))

pub returns : goal.returns
unfolding fraction of_bits
returns c = search rules
