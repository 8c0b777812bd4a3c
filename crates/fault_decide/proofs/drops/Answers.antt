use Rattle.std.proofs.Common.{refl, ap, sym, ◌∙◌}
use Rattle.fault_decide.specs.Decide.{try_action}
use Rattle.fault_decide.proofs.Laws.{drawn}
use Rattle.fault_decide.proofs.drops.Goals as goal

pub returns-in-Drop : goal.returns-in-Drop
unfolding try_action
returns-in-Drop c = (sym (ap (λ a. try_action c.args.c.now.key a c.args.c.now.count) c.in-Drop.is), refl)

pub returns-in-DropWithProbability : goal.returns-in-DropWithProbability
returns-in-DropWithProbability c = let d = c.draw_fraction-x in
    (drawn c.args.c.now d.new.c _ d.ensures.0 d.ensures.1 ∙ sym (ap (λ a. try_action c.args.c.now.key a c.args.c.now.count) c.in-DropWithProbability.is), d.ensures.1.key)
