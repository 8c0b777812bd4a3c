use mathlib.Core.Path.{◌∙◌, sym}
use native.Mathlib.Omega.{arith}
use Rattle.table_rings.specs.Rings.{slots, head_of}
use Rattle.table_ring.proofs.Table.{true_sound}
use Rattle.table_rings.proofs.Laws.{got, got_none, got_out}
use Rattle.table_rings.proofs.get.Goals as goal

pub returns-then-not-is_sound : goal.returns-then-not-is_sound
returns-then-not-is_sound c = let a = c.args in c.no_entry.ensures ∙ got_out a.rings a.ws.now a.r a.k
    (sym c.is_sound.ensures ∙ c.if-not-is_sound.true)

pub returns-then-count-k : goal.returns-then-count-k
returns-then-count-k c = let a = c.args in c.no_entry-then-count-k.ensures ∙ got_none a.rings a.ws.now a.r a.k
    (sym c.is_sound.ensures ∙ c.if-not-is_sound.false) c.if-count-k.true

pub slot-s-requires : goal.slot-s-requires
slot-s-requires c = let a = c.args in
    let s = true_sound slots (head_of a.r) a.ws.now (sym c.is_sound.ensures ∙ c.if-not-is_sound.false) in
    (s.begun, let n = s.counted in omega arith, omega arith)

pub returns : goal.returns
returns c = let a = c.args in
    got a.rings a.ws.now a.r a.k c.get.result c.slot-s.result
    (sym c.is_sound.ensures ∙ c.if-not-is_sound.false) (omega arith) c.slot-s.ensures.is c.get.ensures
