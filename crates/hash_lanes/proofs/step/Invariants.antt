use Rattle.hash_lanes.specs.Lanes.{lane8}
use Rattle.hash_chunk.specs.Chunk.{words_of}
use Rattle.hash_compress.specs.Compress.{compressed}
use lib.ListN.{length, drop}
use mathlib.Core.Path.{◌≡◌}
use Prim.Native.Nat.{ℕ, ◌≤◌, ◌<◌, ◌-◌, ◌+◌, ◌*◌}
use Rattle.hash_lanes.proofs.step.Given as goal

abbrev pub invariant-loop-l : goal.invariant-loop-l
invariant-loop-l l = (l.l ≤ 4) × (length l.out ≡ 32) × ((j : ℕ) → j < l.l → lane8 l.out j ≡ compressed (lane8 l.h j) (words_of (drop (l.n * j) l.s)) (l.t + l.u * j) 64 l.d)

abbrev pub decreases-loop-l : goal.decreases-loop-l
decreases-loop-l l = 4 - l.l
