use Rattle.std.proofs.Common.{◌≡◌, ℕ, ◌+◌, ◌-◌, ◌≤◌, length}
use Rattle.sim_audit_compare.specs.Compared.{closed_by}
use Rattle.sim_audit_compare.proofs.closed.Given as goal

abbrev pub invariant-loop-own : goal.invariant-loop-own
invariant-loop-own l =
    (left : ℕ) × (length l.book ≤ l.account.read + left) × (closed_by left l.account l.book ≡ closed_by (length l.book) l.initial.account l.book)

abbrev pub decreases-loop-own : goal.decreases-loop-own
decreases-loop-own l = length l.book - l.account.read
