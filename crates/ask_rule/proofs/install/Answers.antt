use Rattle.ask_refusal.proofs.Laws.{number_not_0, left_by}
use Rattle.ask_rule.specs.Questions.{card_number}
use Rattle.ask_rule.proofs.Laws.{lent_refuses, lent_passes, place_refuses, place_passes}
use Rattle.ask_rule.proofs.install.Goals as goal

pub returns-in_err-lent : goal.returns-in_err-lent
unfolding card_number
returns-in_err-lent c = rw (left_by c.from_residual.result c.from_residual.ensures.1) (lent_refuses _ _ _ _ _ c.in_err-lent.ensures (number_not_0 _))

pub returns-in_err-place : goal.returns-in_err-place
unfolding card_number
returns-in_err-place c = rw (left_by c.from_residual-in_err-place.result c.from_residual-in_err-place.ensures.1)
    (lent_passes _ _ _ _ c.in_ok-lent.ensures _ (place_refuses _ _ _ c.in_err-place.ensures (number_not_0 _)))

pub returns : goal.returns
unfolding card_number
returns c = lent_passes _ _ _ _ c.in_ok-lent.ensures _ (place_passes _ _ _ c.in_ok-place.ensures c.exact.ensures)
