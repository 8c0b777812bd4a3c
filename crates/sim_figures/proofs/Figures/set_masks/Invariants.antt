use Rattle.std.proofs.Common.{◌≡◌}
use Rattle.sim_figures.specs.Notes.{masked}
use Rattle.sim_figures.proofs.Figures.set_masks.Given as goal

abbrev pub invariant-loop-t : goal.invariant-loop-t
invariant-loop-t l = l.self ≡ masked l.initial.self l.masks l.t
