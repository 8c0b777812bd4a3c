use mathlib.Core.Path.{◌∙◌, sym}
use native.Mathlib.Omega.{arith}
use borrow.Author.Rules.{rules}
use Rattle.table_rings.specs.Rings.{slots, head_of}
use Rattle.table_ring.proofs.Table.{true_sound}
use Rattle.table_rings.proofs.Laws.{left, wrote}
use Rattle.table_rings.proofs.push.Goals as goal

pub returns-then-not-is_sound : goal.returns-then-not-is_sound
returns-then-not-is_sound c = let a = c.args in left a.rings a.ws.now a.r a.e (sym c.is_sound.ensures ∙ c.if-not-is_sound.true)

pub next-p-requires : goal.next-p-requires
next-p-requires c = let a = c.args in (search rules, omega arith, true_sound slots (head_of a.r) a.ws.now (sym c.is_sound.ensures ∙ c.if-not-is_sound.false))

pub returns : goal.returns
returns c = let a = c.args in
    wrote a.rings a.ws.now a.r a.e c.next-p.result c.put.new.ws _
    (sym c.is_sound.ensures ∙ c.if-not-is_sound.false) c.next-p.ensures.is c.put.ensures
    c.set_head.ensures
