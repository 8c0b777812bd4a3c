use Rattle.std.proofs.Common.{refl}
use Rattle.table_log.proofs.Writing.{noted_room, noted_full}
use Rattle.table_log.proofs.note_forced.Goals as goal

pub returns-then-count-capacity : goal.returns-then-count-capacity
returns-then-count-capacity c = let a = c.args in noted_room a.capacity a.log.now c.requires c.if-count-capacity.true

pub returns : goal.returns
returns c = let a = c.args in noted_full a.capacity a.log.now c.requires _ c.if-count-capacity.false refl
