use Rattle.hash_lanes.proofs.Blocks.{Under}
use Rattle.hash_lanes.specs.Lanes.{lane8}
use lib.ListN.{drop}
use Prim.Native.Nat.{ℕ, ◌+◌, ◌-◌, ◌*◌, ◌≤◌, ◌<◌}
use Rattle.hash_lanes.proofs.chunks.Given as goal

abbrev pub invariant-loop-i : goal.invariant-loop-i
invariant-loop-i l = record {
  start_or_0 : l.d ≤ 1;
  under : (j : ℕ) → j < 4 → Under l.s (l.n * j) (l.t + l.u * j) l.d (lane8 l.h j) (drop (64 * l.i) l.s) (1024 - 64 * l.i);
}
