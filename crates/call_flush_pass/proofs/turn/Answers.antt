use mathlib.Core.Path.{◌∙◌, sym}
use Rattle.call_flush_pass.proofs.Passing.{turn_dropped, turn_landed}
use Rattle.call_flush_pass.proofs.turn.Goals as goal

pub returns-then-is_stopped : goal.returns-then-is_stopped
returns-then-is_stopped c = let a = c.args in let F = a.fixed in
    turn_dropped F.extents F.tills.now F.blocks.now a.c a.m a.seen.now _ a.log.now a.out.now _
    (sym c.is_stopped.ensures ∙ c.if-is_stopped.true) c.clear_mark.ensures c.one_dropped.ensures

pub returns : goal.returns
returns c = let a = c.args in let F = a.fixed in
    turn_landed F.extents F.tills.now F.blocks.now a.c a.m a.seen.now a.log.now _ a.out.now _ _ _
    (sym c.is_stopped.ensures ∙ c.if-is_stopped.false) c.handlers_of.ensures c.land.ensures
