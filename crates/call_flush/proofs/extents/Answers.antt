use Rattle.call_flush.specs.Call.{extents_at}
use Rattle.call_flush.proofs.extents.Goals as goal

pub returns : goal.returns
unfolding extents_at
returns c = λ j. record { tills = c.cell.ensures j; slots = c.cell-2.ensures j; log = c.cell-3.ensures j; windows = c.cell-4.ensures j }
