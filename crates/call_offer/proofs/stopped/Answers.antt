use Rattle.std.specs.Prelude.{ℕ}
use Rattle.std.proofs.Common.{ap, ◌∙◌}
use Rattle.call_stopped.specs.Stopped.{stopped_by}
use Rattle.call_offer.proofs.stopped.Goals as goal

pub returns : goal.returns
returns c = let a = c.args in c.stopped.ensures ∙ ap (λ (n : ℕ). stopped_by a.tills.now a.blocks.now n a.from a.to a.at) c.cell.ensures
