use Rattle.sim_printer.proofs.Laws.{next, ended}
use Rattle.sim_printer.proofs.Printer.text.Goals as goal

pub loop-b-preserved : goal.loop-b-preserved
loop-b-preserved c = next _ _ _ _ _ c.loop-b-test.true c.loop-b.invariant c.byte.ensures

pub returns : goal.returns
returns c = ended _ _ _ _ c.loop-b-test.false c.loop-b.invariant
