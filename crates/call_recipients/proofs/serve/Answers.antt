use Rattle.call_recipients.proofs.Turns.{done_none, no_counts_made, going_more, total_more, done_more, done_all}
use native.Mathlib.Omega.{arith}
use mathlib.Core.Path.{refl, ◌∙◌}
use Rattle.call_recipients.proofs.serve.Goals as goal

pub bounds-fixed-0 : goal.bounds-fixed-0
bounds-fixed-0 c = omega (arith, c.requires.0.priced.size)

pub loop-to-init : goal.loop-to-init
loop-to-init c = let a = c.args in (
  omega arith,
  refl,
  refl,
  refl,
  refl,
  refl,
  refl,
  c.requires.3,
  done_none a.fixed.setup.now a.fixed.tills.now
      a.fixed.keys.now a.fixed.prices.now a.fixed.blocks.now a.net.now a.words.now a.seen.now a.waiting.now a.rings.now a.rules.now a.m
      _ (no_counts_made c.default-c.result c.default-c.ensures),
)

pub turn-c-requires : goal.turn-c-requires
turn-c-requires c = (c.requires.0, c.requires.1, c.loop-to.invariant.7, omega (arith, c.loop-to-test.true), c.loop-to.invariant.0)

pub loop-to-preserved : goal.loop-to-preserved
loop-to-preserved c = let a = c.args in
    let l = c.loop-to in
    let F = a.fixed in (
      total_more F.setup.now F.tills.now F.keys.now F.prices.now F.blocks.now a.net.now a.words.now a.seen.now a.waiting.now a.rings.now
          a.rules.now a.m l.net l.words l.seen l.waiting l.rings l.rules _ _ _ _ _ _ l.c _ l.to c.requires.0 c.requires.1 c.requires.2
          l.invariant.7 (omega (arith, c.loop-to-test.true)) c.turn-c.ensures l.invariant.0,
      c.turn-c.auto.net ∙ l.invariant.1,
      c.turn-c.auto.words ∙ l.invariant.2,
      c.turn-c.auto.seen ∙ l.invariant.3,
      c.turn-c.auto.waiting ∙ l.invariant.4,
      c.turn-c.auto.rings ∙ l.invariant.5,
      c.turn-c.auto.rules ∙ l.invariant.6,
      going_more F.setup.now F.tills.now F.keys.now F.prices.now F.blocks.now a.net.now a.words.now a.seen.now a.waiting.now a.rings.now
          a.rules.now a.m l.net l.words l.seen l.waiting l.rings l.rules _ _ _ _ _ _ l.c _ l.to c.requires.0 c.requires.1 c.requires.2
          l.invariant.7 (omega (arith, c.loop-to-test.true)) c.turn-c.ensures,
      done_more F.setup.now F.tills.now F.keys.now F.prices.now F.blocks.now a.net.now a.words.now a.seen.now a.waiting.now a.rings.now
          a.rules.now a.m l.net l.words l.seen l.waiting l.rings l.rules _ _ _ _ _ _ l.c _ l.to c.requires.0 c.requires.1 c.requires.2
          l.invariant.7 (omega (arith, c.loop-to-test.true)) c.turn-c.ensures l.invariant.8,
    )

pub shape_of-net : goal.shape_of-net
shape_of-net c = c.loop-to.invariant.1

pub shape_of-words : goal.shape_of-words
shape_of-words c = c.loop-to.invariant.2

pub shape_of-seen : goal.shape_of-seen
shape_of-seen c = c.loop-to.invariant.3

pub shape_of-waiting : goal.shape_of-waiting
shape_of-waiting c = c.loop-to.invariant.4

pub shape_of-rings : goal.shape_of-rings
shape_of-rings c = c.loop-to.invariant.5

pub shape_of-rules : goal.shape_of-rules
shape_of-rules c = c.loop-to.invariant.6

pub returns : goal.returns
returns c = let a = c.args in
    let l = c.loop-to in
    let F = a.fixed in
    done_all F.setup.now F.tills.now F.keys.now F.prices.now F.blocks.now a.net.now a.words.now a.seen.now a.waiting.now a.rings.now
    a.rules.now a.m l.net l.words l.seen l.waiting l.rings l.rules l.c l.to (omega (arith, c.loop-to-test.false, l.auto.to-end)) l.invariant.8
