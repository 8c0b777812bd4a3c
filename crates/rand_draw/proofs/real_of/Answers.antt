use native.Mathlib.Omega.{arith}
use lib.Dec.{le→leb}
use Prim.Native.Nat.{◌/◌, ◌^◌}
use borrow.Author.Rules.{rules}
use lib.Ieee.{of_bits, in_float}
use Rattle.rand_draw.specs.Real.{real_of}
use Rattle.rand_draw.proofs.real_of.Goals as goal

-- src/lib.rt:49:6
pub int_to_float-result : goal.int_to_float-result
unfolding in_float
int_to_float-result c = le→leb (c.args.draw / 2 ^ 12) (2 ^ 53) (omega (arith, c.ranges.draw.fits))

-- src/lib.rt:46:1
pub returns : goal.returns
unfolding real_of of_bits
returns c = search rules
