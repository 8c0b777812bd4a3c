use Rattle.sim_notes.proofs.Laws.{tallies_none, tallies_more, tallies_end}
use Rattle.std.proofs.Common.{arith}
use Rattle.sim_notes.proofs.tallies_of.Goals as goal

pub loop-class-init : goal.loop-class-init
loop-class-init c = tallies_none _ _ _

pub loop-class-preserved : goal.loop-class-preserved
loop-class-preserved c = tallies_more _ _ _ _ _ _ c.loop-class.invariant c.tally.ensures

pub returns : goal.returns
returns c = tallies_end _ _ _ _ _ (omega arith) (omega arith) c.loop-class.invariant
