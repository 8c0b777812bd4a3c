use contract.BorrowLft.{⊑_meet, ⊑_static}
use Rattle.ask_accept.proofs.Ways.{lives, old_fault, old_link, no_number_lem, no_mark, no_room, all_fit}
use Rattle.ask_tables.proofs.Ladder.{is_no, is_yes}
use native.Mathlib.Omega.{arith}
use Rattle.ask_accept.proofs.tail.Goals.{then-slots-more-via-then-slots-more, then-slots-more-via-else-slots-more+then-slots-more-2}
use Rattle.ask_accept.proofs.tail.Goals as goal

pub returns-then-net-ge-MOST_WORDS : goal.returns-then-net-ge-MOST_WORDS
returns-then-net-ge-MOST_WORDS c = let a = c.args in old_fault a.fixed.setup.now a.net.now a.fixed.tills.now a.words.now a.seen.now a.m c.if-net-ge-MOST_WORDS.true

pub returns-then-not-each_selected : goal.returns-then-not-each_selected
returns-then-not-each_selected c = let a = c.args in old_link a.fixed.setup.now a.net.now a.fixed.tills.now a.words.now a.seen.now a.m c.if-net-ge-MOST_WORDS.false
    (is_no _ _ c.each_selected.ensures c.if-not-each_selected.true)

pub returns-then-more-net : goal.returns-then-more-net
returns-then-more-net c = no_number_lem c.args.fixed.setup.now c.args.net.now c.args.fixed.tills.now c.args.words.now c.args.seen.now c.args.m
    c.if-net-ge-MOST_WORDS.false (is_yes _ _ c.each_selected.ensures c.if-not-each_selected.false) (omega (arith, c.selected-more.ensures.is, c.selected-more.ensures.within, c.if-more-net.true))

pub returns-then-not-each_selected-2 : goal.returns-then-not-each_selected-2
returns-then-not-each_selected-2 c =
    no_mark c.args.fixed.setup.now c.args.net.now c.args.fixed.tills.now c.args.words.now c.args.seen.now c.args.m c.if-net-ge-MOST_WORDS.false
    (is_yes _ _ c.each_selected.ensures c.if-not-each_selected.false)
    (omega (arith, c.selected-more.ensures.is, c.selected-more.ensures.within, c.if-more-net.false)) (is_no _ _ c.each_selected-2.ensures c.if-not-each_selected-2.true)

pub returns-then-slots-more : goal.returns-then-slots-more
returns-then-slots-more c = no_room c.args.fixed.setup.now c.args.net.now c.args.fixed.tills.now c.args.words.now c.args.seen.now c.args.m
    c.if-net-ge-MOST_WORDS.false (is_yes _ _ c.each_selected.ensures c.if-not-each_selected.false)
    (omega (arith, c.selected-more.ensures.is, c.selected-more.ensures.within, c.if-more-net.false))
    (is_yes _ _ c.each_selected-2.ensures c.if-not-each_selected-2.false)
    (elim c.then-slots-more.branch [
      | then-slots-more-via-then-slots-more w ↦ omega (arith, c.selected-more.ensures.is, w.if-slots-more)
      | then-slots-more-via-else-slots-more+then-slots-more-2 w ↦ omega (arith, c.selected-more.ensures.is, w.if-slots-more, w.if-slots-more-2)
    ])

pub returns : goal.returns
returns c = all_fit c.args.fixed.setup.now c.args.net.now c.args.fixed.tills.now c.args.words.now c.args.seen.now c.args.m c.if-net-ge-MOST_WORDS.false
    (is_yes _ _ c.each_selected.ensures c.if-not-each_selected.false)
    (omega (arith, c.selected-more.ensures.is, c.selected-more.ensures.within, c.if-more-net.false))
    (is_yes _ _ c.each_selected-2.ensures c.if-not-each_selected-2.false) (omega (arith, c.selected-more.ensures.is, c.if-slots-more.false, c.if-slots-more-2.false))

pub each_selected-requires : goal.each_selected-requires
each_selected-requires c κs within = (
  search (⊑_meet, ⊑_static, within.0, within.1.0),
  (c.requires.0, ((λ to h. (omega (arith, c.requires.0.from, c.requires.0.few), omega (arith, h, c.requires.0.few), c.requires.1)), (λ to b h e. e))),
)

pub each_selected-requires-2 : goal.each_selected-requires-2
each_selected-requires-2 c κs within = (lives _ _ _ _ within.0 within.1.0 within.1.1.0, (c.requires.0, ((λ to h. (c.requires.0.setup_size, c.requires.2, h)), (λ to b h e. e))))
