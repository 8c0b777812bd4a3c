use lib.ListN.{length}
use Prim.Native.Nat.{◌+◌, ◌-◌, ◌/◌, ◌≤◌}
use mathlib.Core.List.{◌++◌}
use mathlib.Core.Path.{◌≡◌}
use Rattle.hash_chunk.specs.Chunk.{blocks, chunk}
use Rattle.hash_chunk.proofs.chunk_value.Given as goal

abbrev pub invariant-loop-front : goal.invariant-loop-front
invariant-loop-front l = (blocks ((length (l.front ++ l.rest) - 1) / 64) l.h (l.front ++ l.rest) l.t l.d l.e ≡ chunk (l.head ++ l.tail) l.t l.e) × ((length l.front + length l.rest ≤ 1024) × (l.d ≤ 1))

abbrev pub decreases-loop-front : goal.decreases-loop-front
decreases-loop-front l = length l.front + length l.rest
