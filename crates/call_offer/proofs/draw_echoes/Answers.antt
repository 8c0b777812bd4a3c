use Rattle.std.proofs.Common.{ap, arith, ◌∙◌}
use Rattle.std.specs.Bool.{then_some}
use Rattle.call_offer.proofs.Replaying.{silent, echoing_from, double_sent, old_sent}
use Rattle.call_offer.specs.Offering.{as_message}
use Rattle.link_draws.specs.Drawing.{Sent}
use Rattle.spec_network.specs.Tables.{settings_at, sizes_at}
use Rattle.spec_network.specs.Live.{rings_of}
use Rattle.table_rings.specs.Rings.{number_of, entries}
use Rattle.ask_tables.proofs.Ladder.{is_no, is_yes}
use Rattle.call_offer.proofs.draw_echoes.Goals as goal

pub returns-then-not-echoing : goal.returns-then-not-echoing
returns-then-not-echoing c = let a = c.args in
    silent (settings_at a.setup.now) a.prices.now (as_message a.m) a.to (entries (rings_of (sizes_at a.setup.now)) a.rings.now (number_of a.m.kind a.m.scope)) a.c.now
    (is_no _ _ c.echoing.ensures c.if-not-echoing.true)

pub timed-duplicate-requires : goal.timed-duplicate-requires
timed-duplicate-requires c = let a = c.args in (
  double_sent (Sent a.setup.now a.prices.now a.m.from a.to) c.chance-doubles.result c.entry.result (as_message a.m) c.then_some.ensures c.entry.ensures c.requires.0,
  omega (arith, c.requires.2, c.chance-doubles.ensures.few, (c.replayed-old.ensures a.prices.now).few),
)

pub timed-replay-requires : goal.timed-replay-requires
timed-replay-requires c = let a = c.args in
    let s = c.requires.0 in
    let r = c.replayed-old.ensures a.prices.now in (
      old_sent (Sent a.setup.now a.prices.now a.m.from a.to) c.replayed-old.result r.short (λ n h. record { priced = s.priced; sender = s.sender; receiver = s.receiver; short = h }),
      omega (arith, c.requires.2, c.chance-doubles.ensures.few, r.few, c.timed-duplicate.ensures.few),
    )

pub returns : goal.returns
returns c = let a = c.args in
    echoing_from (settings_at a.setup.now) a.prices.now (as_message a.m) a.to (entries (rings_of (sizes_at a.setup.now)) a.rings.now (number_of a.m.kind a.m.scope)) a.c.now
    (is_yes _ _ c.echoing.ensures c.if-not-echoing.false) c.chance-doubles.result c.chance-doubles.new.c c.chance-doubles.ensures
    c.replayed-old.result c.replayed-old.new.c (c.replayed-old.ensures a.prices.now)
    c.then_some.result (c.then_some.ensures ∙ ap (then_some c.chance-doubles.result) c.entry.ensures)
    c.timed-duplicate.result c.timed-replay.result c.timed-duplicate.new.c c.timed-replay.new.c c.timed-duplicate.ensures c.timed-replay.ensures
