use Rattle.std.proofs.Common.{◌≡◌, ◌≤◌}
use Rattle.sim_figures.specs.Notes.{recipients_of}
use Rattle.sim_figures.proofs.Figures.recipients_among.Given as goal

abbrev pub invariant-loop-t : goal.invariant-loop-t
invariant-loop-t l = record { is : l.count ≡ recipients_of l.self l.from l.scope l.t; within : l.count ≤ l.t }
