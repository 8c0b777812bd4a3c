use Rattle.std.proofs.Common.{refl, ◌∙◌}
use Rattle.ask_refusal.proofs.Laws.{number_not_0, left_by}
use Rattle.ask_block.proofs.Laws.{refused_first, passed_first, full, free}
use Rattle.ask_block.proofs.place.Goals as goal

pub returns-in_err-pair : goal.returns-in_err-pair
returns-in_err-pair c = rw (left_by c.from_residual.result c.from_residual.ensures.1) (refused_first _ _ _ _ _ _ _ c.in_err-pair.ensures (number_not_0 _))

pub returns-then-cell : goal.returns-then-cell
returns-then-cell c = full c.args.net.now _ c.cell.ensures c.if-cell.true ∙ passed_first _ _ _ _ _ _ _ c.in_ok-pair.ensures refl

pub returns : goal.returns
returns c = free c.args.net.now _ c.cell.ensures c.if-cell.false ∙ passed_first _ _ _ _ _ _ _ c.in_ok-pair.ensures refl
