use Rattle.link_latency.proofs.Laws.{delay_in_range, delay_is}
use Rattle.link_latency.proofs.delay.Goals as goal

pub from_secs_f64-requires : goal.from_secs_f64-requires
from_secs_f64-requires c = let j = c.jitter-j in
    delay_in_range c.args.c.now j.new.c c.args.base.ns c.args.fraction c.requires.0 c.as_secs_f64-s.ensures j.ensures.0 c.at_least.ensures

pub returns : goal.returns
returns c = let j = c.jitter-j in let t = c.from_secs_f64 in
    delay_is c.args.c.now j.new.c c.args.base.ns c.args.fraction c.requires.0 c.as_secs_f64-s.ensures j.ensures.0 c.at_least.ensures t.ensures.0 t.ensures.1 j.ensures.1
