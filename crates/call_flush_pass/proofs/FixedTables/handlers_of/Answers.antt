use Rattle.call_flush_pass.proofs.Leaves.{shard_taken, global_taken}
use Rattle.call_flush_pass.proofs.FixedTables.handlers_of.Goals as goal

pub returns-then-d-ne-GLOBAL : goal.returns-then-d-ne-GLOBAL
returns-then-d-ne-GLOBAL c = let s = c.args.self in shard_taken s.extents.tills s.tills.now c.args.c c.requires.1.to _ c.get-till.ensures _ c.has-gossip.ensures c.if-d-ne-GLOBAL.true

pub returns : goal.returns
returns c = let s = c.args.self in global_taken s.extents.tills s.tills.now c.args.c c.requires.1.to _ c.get-till.ensures _ c.has-gossip.ensures _ c.if-d-ne-GLOBAL.false c.has-host.ensures
