use Rattle.sim_printer.proofs.Laws.{spelled}
use Rattle.sim_printer.proofs.Printer.decimal_right.Goals as goal

pub returns : goal.returns
returns c = spelled 10 1 _ _ _ _ _ _ _ _ c.decimal-k.ensures.len c.saturating_sub.ensures c.spaces.ensures c.decimal-k.ensures.digits c.text.ensures
