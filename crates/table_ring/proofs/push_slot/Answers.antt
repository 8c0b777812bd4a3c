use Rattle.table_ring.proofs.Laws.{push_room, push_full}
use Rattle.table_ring.proofs.push_slot.Goals as goal

pub returns-then-count-capacity-clause-is : goal.returns-then-count-capacity-clause-is
returns-then-count-capacity-clause-is c = let a = c.args in push_room a.capacity a.count a.first c.slot-s.result c.if-count-capacity.true c.slot-s.ensures.is

pub returns-clause-is : goal.returns-clause-is
returns-clause-is c = let a = c.args in push_full a.capacity a.count a.first c.slot-f.result c.if-count-capacity.false c.slot-f.ensures.is
