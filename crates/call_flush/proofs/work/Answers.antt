use mathlib.Core.Path.{refl, ap}
use Rattle.call_flush.specs.Call.{flushed_by}
use Rattle.call_flush.proofs.work.Goals as goal

pub pass-m-requires : goal.pass-m-requires
pass-m-requires c = let p = c.requires in (record { read = p.room; seen = p.seen; log = p.log }, p.due)

pub returns : goal.returns
returns c = let p = c.pass-m.ensures in
    record
    { net = refl; seen = p.seen; waiting = c.drop_front.ensures; log = p.log; out = p.out; reply = ap flushed_by p.counts }
