use Rattle.std.proofs.Common.{refl}
use Rattle.ask_refusal.proofs.Laws.{number_not_0, left_by}
use Rattle.ask_block.proofs.Laws.{refused_before, asked_window, is_forward, is_turned}
use Rattle.ask_block.proofs.window.Goals as goal

pub returns-in_err-place : goal.returns-in_err-place
returns-in_err-place c = rw (left_by c.from_residual.result c.from_residual.ensures.1) (refused_before _ _ _ _ _ c.args.start c.args.end _ c.in_err-place.ensures (number_not_0 _))

pub returns-then-not-is_forward : goal.returns-then-not-is_forward
returns-then-not-is_forward c = asked_window _ _ _ _ _ _ _ _ c.in_ok-place.ensures refl _ (is_turned _ _ _ c.is_forward.ensures c.if-not-is_forward.true)

pub returns : goal.returns
returns c = asked_window _ _ _ _ _ _ _ _ c.in_ok-place.ensures refl _ (is_forward _ _ _ c.is_forward.ensures c.if-not-is_forward.false)
