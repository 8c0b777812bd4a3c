use Rattle.std.proofs.Common.{◌+◌}
use Rattle.sim_sheet.specs.Sheet.{Prints, table_of}
use Rattle.sim_checklist_counts.specs.Counts.{refusal_of}
use Rattle.sim_checklist_counts.proofs.refusals.Given as goal

abbrev pub invariant-loop-n : goal.invariant-loop-n
invariant-loop-n l = Prints (table_of (λ k. refusal_of l.figures (k + 1)) l.n) l.initial.page l.page
