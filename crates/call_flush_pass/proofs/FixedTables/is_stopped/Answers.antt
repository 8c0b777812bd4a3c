use mathlib.Core.Path.{◌∙◌}
use Rattle.call_flush_pass.proofs.Leaves.{stop_is}
use Rattle.call_flush_pass.proofs.FixedTables.is_stopped.Goals as goal

pub returns : goal.returns
returns c = let s = c.args.self in c.stopped.ensures ∙ stop_is s.extents s.tills.now s.blocks.now c.args.c c.requires.1.from c.requires.1.to
