use Rattle.std.proofs.Common.{◌≡◌}
use Rattle.sim_audit_figures.proofs.Figures.booked.Given as goal

abbrev pub invariant-loop-line : goal.invariant-loop-line
invariant-loop-line l = l.self.recorded ≡ l.initial.self.recorded
