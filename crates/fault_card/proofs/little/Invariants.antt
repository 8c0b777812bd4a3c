use Rattle.std.proofs.Common.{◌≡◌, ◌+◌, ◌-◌, ◌≤◌, ◌<◌, ◌^◌}
use Rattle.fault_card.specs.Card.{le_at}
use Rattle.fault_card.proofs.little.Given as goal

-- the bytes behind the first k are read
abbrev pub invariant-loop-k : goal.invariant-loop-k
invariant-loop-k l = record { within : l.k ≤ l.w; so_far : l.v ≡ le_at l.s (l.i + l.k) (l.w - l.k); small : l.v < 256 ^ (l.w - l.k) }
