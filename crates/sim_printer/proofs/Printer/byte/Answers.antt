use Rattle.sim_printer.proofs.Laws.{behind, first, nowhere}
use Rattle.sim_printer.proofs.Printer.byte.Goals as goal

pub returns-then-self : goal.returns-then-self
returns-then-self c = rw (← c.self.view_is) (behind _ _ _ c.if-self.true)

pub returns-then-self-gt0 : goal.returns-then-self-gt0
returns-then-self-gt0 c = rw (← c.self.view_is) (first _ _ _ c.if-self.false c.if-self-gt0.true)

pub returns : goal.returns
returns c = rw (← c.self.view_is) (nowhere _ _ _ c.if-self.false c.if-self-gt0.false)
