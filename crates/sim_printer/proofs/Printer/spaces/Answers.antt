use Rattle.std.proofs.Common.{arith}
use Rattle.sim_printer.proofs.Laws.{space, no_space}
use Rattle.sim_printer.proofs.Printer.spaces.Goals as goal

pub loop-preserved : goal.loop-preserved
loop-preserved c = space _ _ _ _ _ c.loop-test.true c.loop.invariant c.byte.ensures

pub returns : goal.returns
returns c = no_space _ _ _ (omega arith) c.loop.invariant
