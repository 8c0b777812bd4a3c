use Rattle.std.proofs.Common.{◌≡◌, ◌++◌, take, drop}
use Rattle.sim_audit_lines.specs.Recorded.{plain}
use Rattle.sim_audit_lines.proofs.plain.Given as goal

abbrev pub invariant-loop-end : goal.invariant-loop-end
invariant-loop-end l = take l.end l.book ++ plain (drop l.end l.book) ≡ plain l.book
