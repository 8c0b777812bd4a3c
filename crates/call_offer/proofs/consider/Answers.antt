use Rattle.spec_network.specs.Lending.{lend_offer}
use Rattle.call_offer.proofs.Considered.{is_deduplicated, is_partition}
use Rattle.call_offer.proofs.Readings.{marked_is, stopped_is}
use Rattle.call_offer.specs.Offering.{as_message, Draws, Offers}
use mathlib.Core.Path.{sym, ◌∙◌}
use Rattle.call_offer.proofs.consider.Goals as goal

pub returns-then-marked : goal.returns-then-marked
unfolding Offers
returns-then-marked c = let a = c.args in
    let F = a.fixed in
    λ L. let T = lend_offer L F.setup.now a.net.now F.tills.now a.words.now F.keys.now F.prices.now a.seen.now a.rings.now a.rules.now F.blocks.now in
    is_deduplicated T (as_message a.m) a.to (marked_is T a.to a.m.id c.requires.3 ∙ sym c.marked.ensures ∙ c.if-marked.true)

pub returns-then-stopped : goal.returns-then-stopped
unfolding Offers
returns-then-stopped c = let a = c.args in
    let F = a.fixed in
    λ L. let T = lend_offer L F.setup.now a.net.now F.tills.now a.words.now F.keys.now F.prices.now a.seen.now a.rings.now a.rules.now F.blocks.now in
    is_partition T (as_message a.m) a.to
    (marked_is T a.to a.m.id c.requires.3 ∙ sym c.marked.ensures ∙ c.if-marked.false)
    (stopped_is T a.m.from a.to a.m.now c.requires.2.from c.requires.3 ∙ sym c.stopped.ensures ∙ c.if-stopped.true)

pub returns : goal.returns
unfolding Offers Draws
returns c = let a = c.args in
    let F = a.fixed in
    λ L. let T = lend_offer L F.setup.now a.net.now F.tills.now a.words.now F.keys.now F.prices.now a.seen.now a.rings.now a.rules.now F.blocks.now in
    c.drawn.ensures T
    (marked_is T a.to a.m.id c.requires.3 ∙ sym c.marked.ensures ∙ c.if-marked.false)
    (stopped_is T a.m.from a.to a.m.now c.requires.2.from c.requires.3 ∙ sym c.stopped.ensures ∙ c.if-stopped.false)
