use Rattle.std.proofs.Common.{arith}
use Rattle.sim_figures.proofs.Laws.{recipients_none, recipients_more, one_at_most}
use Rattle.sim_figures.proofs.Figures.recipients_among.Goals as goal

pub loop-t-init : goal.loop-t-init
loop-t-init c = record { is = recipients_none _ _ _; within = omega arith }

pub overflow_add-count : goal.overflow_add-count
overflow_add-count c = omega (arith, one_at_most _ _ c.from-count.ensures)

pub loop-t-preserved : goal.loop-t-preserved
loop-t-preserved c = record {
  is = recipients_more _ _ _ _ _ _ _ c.loop-t.invariant.is c.receives.ensures c.from-count.ensures;
  within = omega (arith, one_at_most _ _ c.from-count.ensures);
}
