use native.Mathlib.Omega.{arith}
use Rattle.fault_card.proofs.Laws.{laid}
use Rattle.fault_card.proofs.lay_out.Goals as goal

pub returns : goal.returns
returns c = (
  laid _ _ _ _ _ _ _ c.size_of.ensures.0 c.size_of-2.ensures.0 c.size_of-3.ensures.0 c.size_of-4.ensures.0 c.size_of-5.ensures.0 c.size_of-6.ensures.0,
  record { kind = omega arith; from = omega arith; to = omega arith; tier = omega arith; probability = omega arith; window = omega arith },
)
