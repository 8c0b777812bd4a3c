use lib.Bits.{and_mask, mask_lt}
use Rattle.math_word.proofs.low_half.Goals as goal

pub returns : goal.returns
returns c = (and_mask c.args.x 32, mask_lt c.args.x 32)
