use Rattle.std.proofs.Common.{◌<◌}
use Rattle.std.specs.Slice.Iter.{chunks_mut_size}
use Rattle.sim_openings.proofs.names.Given as goal

abbrev pub invariant-loop-i : goal.invariant-loop-i
invariant-loop-i l = 0 < chunks_mut_size l.places
