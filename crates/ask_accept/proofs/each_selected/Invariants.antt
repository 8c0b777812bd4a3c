use mathlib.Core.Path.{◌≡◌}
use Rattle.table_rows.specs.Rows.{all_of}
use Rattle.call_recipients.specs.Turning.{remaining}
use Rattle.ask_accept.proofs.each_selected.Given as goal

abbrev pub invariant-loop-to : goal.invariant-loop-to
invariant-loop-to g l = all_of g.passes (remaining l.setup l.tills l.m 0) ≡ all_of g.passes (remaining l.setup l.tills l.m l.to)
