use mathlib.Core.Path.{refl}
use lib.Bits.{and_mask}
use Rattle.rand_chacha8.proofs.split.Goals as goal

pub returns : goal.returns
returns c = (refl, and_mask c.args.count 4)
