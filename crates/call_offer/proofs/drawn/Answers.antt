use Rattle.spec_network.specs.Lending.{lend_draws}
use Rattle.call_offer.proofs.Considered.{is_loss, is_fault, is_sent}
use Rattle.call_offer.proofs.Readings.{ring_is, ring_below}
use Rattle.call_offer.specs.Offering.{as_message, Draws}
use Rattle.spec_network.specs.Tables.{sizes_at}
use Rattle.spec_network.specs.Live.{rings_of}
use Rattle.table_rings.specs.Rings.{number_of, entries}
use Rattle.call_offer.proofs.drawn.Goals as goal

pub returns-then-chance : goal.returns-then-chance
unfolding Draws
returns-then-chance c = let a = c.args in
    λ L hm hs.
    is_loss (lend_draws L a.fixed.setup.now a.net.now a.words.now a.fixed.keys.now a.fixed.prices.now a.rings.now a.rules.now) (as_message a.m) a.to hm hs c.link_at-c.result c.link_at-c.ensures
    c.chance.result c.chance.new.c c.chance.ensures c.if-chance.true

pub returns-in-Some : goal.returns-in-Some
unfolding Draws
returns-in-Some c = let a = c.args in
    λ L hm hs.
    is_fault (lend_draws L a.fixed.setup.now a.net.now a.words.now a.fixed.keys.now a.fixed.prices.now a.rings.now a.rules.now) (as_message a.m) a.to hm hs c.link_at-c.result c.link_at-c.ensures
    c.chance.result c.chance.new.c c.chance.ensures c.if-chance.false c.delay-latency.result.ns c.delay-latency.new.c c.delay-latency.ensures
    c.decided-v.result c.decided-v.ensures _ c.in-Some.is

pub returns : goal.returns
unfolding Draws
returns c = let a = c.args in
    λ L hm hs.
    is_sent (lend_draws L a.fixed.setup.now a.net.now a.words.now a.fixed.keys.now a.fixed.prices.now a.rings.now a.rules.now) (as_message a.m) a.to hm hs c.link_at-c.result c.link_at-c.ensures
    c.chance.result c.chance.new.c c.chance.ensures c.if-chance.false c.delay-latency.result.ns c.delay-latency.new.c c.delay-latency.ensures
    c.decided-v.result c.decided-v.ensures c.in_default.is
    (entries (rings_of (sizes_at a.fixed.setup.now)) a.rings.now (number_of a.m.kind a.m.scope))
    (ring_is (lend_draws L a.fixed.setup.now a.net.now a.words.now a.fixed.keys.now a.fixed.prices.now a.rings.now a.rules.now) (as_message a.m)
    (ring_below (sizes_at a.fixed.setup.now) a.m.kind a.m.scope c.requires.ranged.kind c.requires.ranged.scope))
    c.draw_echoes-echoes.result c.draw_echoes-echoes.ensures
