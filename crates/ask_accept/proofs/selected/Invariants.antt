use mathlib.Core.Path.{◌≡◌}
use Prim.Native.Nat.{◌≤◌, ◌+◌}
use lib.ListN.{length}
use Rattle.call_recipients.specs.Turning.{remaining}
use Rattle.ask_accept.proofs.selected.Given as goal

abbrev pub invariant-loop-to : goal.invariant-loop-to
invariant-loop-to l = (l.c ≤ l.to) × (length (remaining l.setup l.tills l.m 0) ≡ l.c + length (remaining l.setup l.tills l.m l.to))
