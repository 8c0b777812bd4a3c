use Rattle.fault_decide.proofs.Laws.{Scanned}
use Rattle.fault_decide.proofs.decide.Given as goal

abbrev pub invariant-loop-i : goal.invariant-loop-i
invariant-loop-i l = Scanned l.ws l.n l.m l.initial.c l.i l.c
