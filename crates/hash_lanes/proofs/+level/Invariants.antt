use Rattle.hash_lanes.proofs.+level.Given as goal

abbrev pub decreases-level : goal.decreases-level
decreases-level l = l.k
