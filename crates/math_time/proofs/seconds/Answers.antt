use mathlib.Core.Path.{refl}
use native.Mathlib.Omega.{arith}
use lib.Dec.{le→leb}
use Prim.Native.Nat.{◌/◌, ◌%◌, ◌^◌}
use lib.Ieee.{in_float}
use Rattle.math_time.specs.Seconds.{seconds, second}
use Rattle.math_time.proofs.seconds.Goals as goal

pub int_to_float-whole : goal.int_to_float-whole
unfolding in_float
int_to_float-whole c = le→leb (c.args.ns / second) (2 ^ 53) (omega (arith, c.ranges.ns.fits))

pub int_to_float-rest : goal.int_to_float-rest
unfolding in_float
int_to_float-rest c = le→leb (c.args.ns % second) (2 ^ 53) (omega arith)

pub int_to_float-result : goal.int_to_float-result
unfolding in_float
int_to_float-result c = le→leb second (2 ^ 53) (omega arith)

pub returns : goal.returns
unfolding seconds
returns c = refl
