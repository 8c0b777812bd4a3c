use mathlib.Core.Path.{◌∙◌, sym}
use Rattle.table_log.proofs.Writing.{sound_log_lem}
use Rattle.table_scan.proofs.Laws.{log_out, log_in}
use Rattle.table_scan.proofs.log_near.Goals as goal

pub returns-else-is_sound : goal.returns-else-is_sound
returns-else-is_sound c = let a = c.args in c.if-is_sound.false ∙ log_out a.l a.capacity a.ws.now (sym c.is_sound.ensures ∙ c.if-is_sound.false)

pub records_near-requires : goal.records_near-requires
records_near-requires c = let a = c.args in (c.requires, sound_log_lem a.capacity a.ws.now (sym c.is_sound.ensures ∙ c.if-is_sound.true))

pub returns-then-is_sound : goal.returns-then-is_sound
returns-then-is_sound c = let a = c.args in c.records_near.ensures ∙ log_in a.l a.capacity a.ws.now (sym c.is_sound.ensures ∙ c.if-is_sound.true)
