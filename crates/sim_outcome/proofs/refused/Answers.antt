use mathlib.Core.Path.{subst}
use Prim.Native.Nat.{ℕ}
use Rattle.sim_sheet.specs.Sheet.{Prints, bytes}
use Rattle.sim_sheet.proofs.Laws.{onward}
use Rattle.sim_outcome.specs.Answer.{numbered}
use Rattle.sim_outcome.proofs.refused.Goals as goal

pub returns-clause-prints : goal.returns-clause-prints
returns-clause-prints c =
    onward _ _ _ _ _ c.say.ensures (subst (λ (n : ℕ). Prints (numbered (bytes " refused ") n) c.say.new.page c.numbered.new.page) c.number.ensures c.numbered.ensures)
