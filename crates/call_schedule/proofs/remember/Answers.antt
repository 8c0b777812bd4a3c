use Rattle.std.proofs.Common.{ap, ◌∙◌}
use Rattle.call_schedule.proofs.Pushing.{unremembered, ring_took}
use Rattle.ask_tables.proofs.Ladder.{is_no, is_yes}
use Rattle.call_offer.specs.Offering.{as_message}
use Rattle.table_rings.specs.Rings.{pushed}
use Rattle.spec_network.specs.Live.{rings_of}
use Rattle.spec_network.specs.Tables.{settings_at, sizes_at}
use Rattle.call_schedule.proofs.remember.Goals as goal

pub returns-then-not-echoing : goal.returns-then-not-echoing
returns-then-not-echoing c = unremembered (settings_at c.args.setup.now) c.args.rings.now (as_message c.args.m) (is_no _ _ c.echoing.ensures c.if-not-echoing.true)

pub returns : goal.returns
returns c = let a = c.args in
    ring_took (settings_at a.setup.now) a.rings.now (as_message a.m) (is_yes _ _ c.echoing.ensures c.if-not-echoing.false) c.number-ring.result _ c.number-ring.ensures.is
    (c.push.ensures ∙ ap (pushed (rings_of (sizes_at a.setup.now)) a.rings.now c.number-ring.result) c.entry.ensures)
