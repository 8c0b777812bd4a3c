use Rattle.std.proofs.Common.{sym, ◌∙◌, arith}
use Rattle.table_ring.proofs.Table.{true_sound}
use Rattle.table_log.proofs.Laws.{left, wrote, ready}
use Rattle.table_log.proofs.push.Goals as goal

pub returns-then-not-is_sound : goal.returns-then-not-is_sound
returns-then-not-is_sound c = let a = c.args in left a.capacity a.log.now a.d (sym c.is_sound.ensures ∙ c.if-not-is_sound.true)

pub next-p-requires : goal.next-p-requires
next-p-requires c = let a = c.args in
    let s = true_sound a.capacity 0 a.log.now (sym c.is_sound.ensures ∙ c.if-not-is_sound.false) in
    let l = c.add_tally.auto.log in
    let k = c.note_forced.auto.log in (
      omega arith,
      omega arith,
      ready a.capacity a.log.now a.d c.requires s c.add_tally.new.log
          c.note_forced.new.log c.add_tally.ensures c.note_forced.ensures,
    )

pub returns : goal.returns
returns c = let a = c.args in
    wrote a.capacity a.log.now a.d c.add_tally.new.log c.note_forced.new.log c.put.new.ws _
    c.next-p.result (sym c.is_sound.ensures ∙ c.if-not-is_sound.false) c.add_tally.ensures
    c.note_forced.ensures c.next-p.ensures.is c.put.ensures c.set_head.ensures
