use Rattle.math_parts.proofs.Rows.{joined_made}
use Rattle.math_parts.proofs.joined.Goals as goal

pub returns : goal.returns
returns g c = joined_made g.row.N c.min-m.result c.args.head.now c.args.tail.now _ _ c.requires c.min-m.ensures c.copy_from_slice.ensures.after c.copy_from_slice-2.ensures.after
