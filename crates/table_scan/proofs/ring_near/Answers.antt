use mathlib.Core.Path.{◌∙◌, sym}
use Rattle.table_ring.proofs.Table.{true_sound}
use Rattle.table_rings.specs.Rings.{slots, head_of}
use Rattle.table_scan.proofs.Laws.{ring_out, ring_in}
use Rattle.table_scan.proofs.ring_near.Goals as goal

pub returns-else-is_sound : goal.returns-else-is_sound
returns-else-is_sound c = let a = c.args in c.if-is_sound.false ∙ ring_out a.l a.rings a.ws.now a.r (sym c.is_sound.ensures ∙ c.if-is_sound.false)

pub entries_near-requires : goal.entries_near-requires
entries_near-requires c = let a = c.args in (c.requires, true_sound slots (head_of a.r) a.ws.now (sym c.is_sound.ensures ∙ c.if-is_sound.true))

pub returns-then-is_sound : goal.returns-then-is_sound
returns-then-is_sound c = let a = c.args in c.entries_near.ensures ∙ ring_in a.l a.rings a.ws.now a.r (sym c.is_sound.ensures ∙ c.if-is_sound.true)
