use lib.Dec.{lit≤}
use Rattle.math_time.specs.Seconds.{seconds}
use Rattle.link_latency.proofs.Laws.{room_hit, room_factor, weaken, spike_range, hit_is, unhit}
use Rattle.link_latency.proofs.sample_latency.Goals as goal

pub hits-requires : goal.hits-requires
hits-requires c = let d = c.delay-drawn in
    weaken _ 1 3 (room_hit c.args.c.now d.new.c (seconds c.args.base.ns) c.args.fraction c.requires.2 d.ensures.1) (lit≤ tt)

pub draw_real-by-requires : goal.draw_real-by-requires
draw_real-by-requires c = let d = c.delay-drawn in
    room_factor d.new.c c.hits.new.c c.args.rate (room_hit c.args.c.now d.new.c (seconds c.args.base.ns) c.args.fraction c.requires.2 d.ensures.1) c.hits.ensures.1

pub mul_f64-requires : goal.mul_f64-requires
mul_f64-requires c = let d = c.delay-drawn in
    let h = c.hits in
    spike_range c.args.c.now d.new.c h.new.c c.args.base.ns c.args.fraction c.args.rate c.args.transmission.ns d.ensures.0 d.ensures.1 d.ensures.2 d.ensures.3
    c.requires.1 c.add-plain.ensures h.ensures.0 h.ensures.1 c.if-hits.true c.draw_real-by.ensures.0

pub returns-then-hits : goal.returns-then-hits
returns-then-hits c = let d = c.delay-drawn in
    let h = c.hits in
    let y = c.draw_real-by in
    hit_is c.args.c.now d.new.c h.new.c c.args.base.ns c.args.fraction c.args.rate c.args.transmission.ns d.ensures.0 d.ensures.1 d.ensures.2 d.ensures.3
    c.requires.1 c.add-plain.ensures h.ensures.0 h.ensures.1 c.if-hits.true y.ensures.0 y.new.c c.mul_f64.ensures.0 c.mul_f64.ensures.1 y.ensures.1

pub returns : goal.returns
returns c = let d = c.delay-drawn in
    let h = c.hits in
    unhit c.args.c.now d.new.c h.new.c c.args.base.ns c.args.fraction c.args.rate c.args.transmission.ns d.ensures.0 d.ensures.1 d.ensures.2 d.ensures.3 c.requires.1
    c.add-plain.ensures h.ensures.0 h.ensures.1 c.if-hits.false
