use Rattle.std.proofs.Common.{◌≡◌, ◌+◌, ◌≤◌}
use Rattle.call_waiting.specs.Call.{transit_of}
use Rattle.call_waiting.proofs.Work.{left}
use Rattle.call_waiting.proofs.count_to.Given as goal

abbrev pub invariant-loop-i : goal.invariant-loop-i
invariant-loop-i l = (l.k ≤ l.i) × (transit_of l.t l.waiting l.n ≡ l.k + left l.t l.waiting l.n l.i)
