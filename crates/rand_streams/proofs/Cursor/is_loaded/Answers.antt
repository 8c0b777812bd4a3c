use Rattle.std.proofs.Common.{arith}
use Rattle.rand_streams.proofs.Laws.{held_already}
use Rattle.rand_streams.proofs.Cursor.is_loaded.Goals as goal

pub returns : goal.returns
returns c = λ h. held_already _ (grind (arith, h, c.split.ensures.0))
