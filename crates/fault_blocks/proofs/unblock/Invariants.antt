use Rattle.fault_blocks.proofs.Laws.{Moved}
use Rattle.fault_blocks.proofs.unblock.Given as goal

abbrev pub invariant-loop-i : goal.invariant-loop-i
invariant-loop-i l = Moved l.from l.to l.n l.initial.ws l.i l.k l.ws
