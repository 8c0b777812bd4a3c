use mathlib.Core.Path.{subst, sym}
use Rattle.std.specs.Prelude.{Result}
use Rattle.ask_refusal.specs.declared.Refusal.{Refusal}
use Rattle.sim_sheet.specs.Sheet.{Prints}
use Rattle.sim_sheet.proofs.Laws.{onward}
use Rattle.sim_outcome.specs.Answer.{done_line}
use Rattle.sim_outcome.proofs.done.Goals as goal

pub returns-in-Ok-clause-prints : goal.returns-in-Ok-clause-prints
returns-in-Ok-clause-prints c =
    subst (λ (r : Result _ Refusal). Prints (done_line c.args.call.now r) c.args.page.now c.say-in-Ok.new.page) (sym c.in-Ok.is) (onward _ _ _ _ _ c.say.ensures c.say-in-Ok.ensures)
