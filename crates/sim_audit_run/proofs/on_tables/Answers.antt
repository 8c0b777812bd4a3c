use Rattle.std.proofs.Common.{ℕ, sym}
use Rattle.std.proofs.lemmas.List.{length-replicate}
use Rattle.sim_audit_run.proofs.on_tables.Goals as goal

-- The search would count the zeros of the longest array, and run out of stack.
pub slice_bounds-new-end : goal.slice_bounds-new-end
slice_bounds-new-end g c = sym (length-replicate {0} {A = ℕ} 524288 0)
