use Rattle.std.proofs.Common.{refl, ◌∙◌}
use Rattle.ask_refusal.proofs.Laws.{number_not_0, left_by}
use Rattle.ask_block.proofs.Laws.{refused_first, passed_first, too_late, in_time}
use Rattle.ask_block.proofs.time.Goals as goal

pub returns-in_err-pair : goal.returns-in_err-pair
returns-in_err-pair c = rw (left_by c.from_residual.result c.from_residual.ensures.1) (refused_first _ _ _ _ _ _ _ c.in_err-pair.ensures (number_not_0 _))

pub returns-then-at-gt-LATEST : goal.returns-then-at-gt-LATEST
returns-then-at-gt-LATEST c = too_late _ c.if-at-gt-LATEST.true ∙ passed_first _ _ _ _ _ _ _ c.in_ok-pair.ensures refl

pub returns : goal.returns
returns c = in_time _ c.if-at-gt-LATEST.false ∙ passed_first _ _ _ _ _ _ _ c.in_ok-pair.ensures refl
