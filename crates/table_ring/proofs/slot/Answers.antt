use Rattle.table_ring.proofs.Laws.{slot_low, slot_high}
use Rattle.table_ring.proofs.slot.Goals as goal

pub returns-then-at-capacity-clause-is : goal.returns-then-at-capacity-clause-is
returns-then-at-capacity-clause-is c = let a = c.args in slot_low a.capacity a.first a.k c.if-at-capacity.true

pub returns-clause-is : goal.returns-clause-is
returns-clause-is c = let a = c.args in slot_high a.capacity a.first a.k c.if-at-capacity.false
