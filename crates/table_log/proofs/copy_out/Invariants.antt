use Rattle.std.proofs.Common.{◌≡◌, ◌≤◌, length}
use Rattle.table_delivery.specs.Delivery as delivery
use Rattle.table_rows.specs.Table.{over}
use Rattle.table_ring.specs.Ring.{count_at}
use Rattle.table_log.proofs.Draining.{first_ones}
use Rattle.table_log.proofs.copy_out.Given as goal

abbrev pub invariant-loop-i : goal.invariant-loop-i
invariant-loop-i l = (l.count ≡ count_at 0 l.log) × (l.i ≤ l.count) × (length l.out ≡ length l.initial.out) × (l.out ≡ over delivery.form (first_ones l.capacity l.log l.initial.out l.i) l.initial.out)
