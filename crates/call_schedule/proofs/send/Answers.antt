use Rattle.call_schedule.proofs.Pushing.{room_less, room_set, room_after}
use Rattle.call_schedule.proofs.Applying.{sends}
use Rattle.spec_network.specs.Tables.{fault_words_at}
use Rattle.spec_network.specs.Live.{Carried}
use Rattle.spec_network.specs.Accept.{copy_with}
use Rattle.call_offer.specs.Offering.{as_message}
use mathlib.Core.Path.{ap, ◌∙◌}
use native.Mathlib.Omega.{arith}
use lib.ListN.{length-set, set}
use Rattle.call_schedule.proofs.send.Goals as goal

pub push-requires : goal.push-requires
push-requires c = let a = c.args in
    room_less _ a.waiting.now 1 3 (omega arith) (room_set a.net.now a.waiting.now 3 a.x.fault c.requires.room)

pub echo-requires : goal.echo-requires
echo-requires c = (c.requires.ranged.now, c.requires.first)

pub push-requires-2 : goal.push-requires-2
push-requires-2 c = let a = c.args in room_less _ _ 1 2 (omega arith)
    (room_after _ (set a.net.now fault_words_at a.x.fault) a.waiting.now _ _ 2 c.push.ensures.counts c.push.auto.waiting (room_set a.net.now a.waiting.now 3 a.x.fault c.requires.room))

pub echo-requires-2 : goal.echo-requires-2
echo-requires-2 c = (c.requires.ranged.now, c.requires.second)

pub push-requires-3 : goal.push-requires-3
push-requires-3 c = let a = c.args in room_after _ _ _ _ _ 1 c.push-2.ensures.counts c.push-2.auto.waiting
    (room_after _ (set a.net.now fault_words_at a.x.fault) a.waiting.now _ _ 2 c.push.ensures.counts
    c.push.auto.waiting (room_set a.net.now a.waiting.now 3 a.x.fault c.requires.room))

pub remember-requires : goal.remember-requires
remember-requires c = let p = c.requires in record { setup_size = p.setup_size; types = p.types; held = p.rings_held; ranged = p.ranged }

pub shape_of-net : goal.shape_of-net
shape_of-net c = omega (arith, c.push.auto.net, c.push-2.auto.net, c.push-3.auto.net, length-set c.args.net.now fault_words_at c.args.x.fault)

pub shape_of-seen : goal.shape_of-seen
shape_of-seen c = omega (arith, c.mark.auto.seen)

pub shape_of-waiting : goal.shape_of-waiting
shape_of-waiting c = omega (arith, c.push.auto.waiting, c.push-2.auto.waiting, c.push-3.auto.waiting)

pub returns : goal.returns
returns c = let a = c.args in
    sends a.m a.to a.x a.setup.now a.net.now a.words.now a.seen.now a.waiting.now a.rings.now c.requires.below (omega (arith, c.requires.net_size)) c.mark.ensures
    (c.copy_with-first.ensures ∙ ap (λ (e : Carried). copy_with (as_message a.m) a.to 0 e a.x.latency 1 a.m.id) c.entry.ensures)
    c.push.ensures.counts c.push.ensures.rows c.echo.ensures c.push-2.ensures.counts c.push-2.ensures.rows c.echo-2.ensures c.push-3.ensures.counts c.push-3.ensures.rows c.remember.ensures
