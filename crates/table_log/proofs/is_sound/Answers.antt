use Rattle.table_log.proofs.Writing.{sound_off, sound_on}
use Rattle.table_log.proofs.is_sound.Goals as goal

pub returns-then-capacity-eq0 : goal.returns-then-capacity-eq0
returns-then-capacity-eq0 c = let a = c.args in sound_off a.capacity a.log.now c.if-capacity-eq0.true

pub returns : goal.returns
returns c = let a = c.args in sound_on a.capacity a.log.now c.is_sound.result c.if-capacity-eq0.false c.is_sound.ensures
