use mathlib.Core.Path.{◌∙◌}
use Rattle.table_waiting.specs.Waiting.{form}
use Rattle.table_waiting.specs.Waiting.{exact}
use Rattle.table_rows.proofs.Table.{over_closed}
use Rattle.table_waiting.proofs.drop_front.Goals as goal

pub returns : goal.returns
returns c = let a = c.args in c.move_down.ensures ∙ over_closed form exact a.ws.now a.n a.k c.requires.0 c.requires.1
