use Rattle.sim_printer.proofs.Laws.{spelled_plain}
use Rattle.sim_printer.proofs.Printer.hex.Goals as goal

pub returns : goal.returns
returns c = spelled_plain 16 _ _ _ _ _ _ c.hex-k.ensures.len c.hex-k.ensures.digits c.text.ensures
