use Rattle.std.proofs.Common.{◌≡◌, ◌*◌, ◌-◌, drop}
use Rattle.fault_blocks.specs.Blocks.{block_width, blocks_of, blocked}
use Rattle.fault_blocks.proofs.is_blocked.Given as goal

-- none of the first i blocks does
abbrev pub invariant-loop-i : goal.invariant-loop-i
invariant-loop-i l = blocked l.from l.to l.at (blocks_of l.ws l.n) ≡ blocked l.from l.to l.at (blocks_of (drop (l.i * block_width) l.ws) (l.n - l.i))
