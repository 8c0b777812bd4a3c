use Rattle.std.proofs.Common.{arith}
use Rattle.ask_tables.proofs.Ladder.{is_no, is_yes}
use Rattle.ask_block.proofs.Laws.{not_lent, not_near, near}
use Rattle.ask_block.proofs.pair.Goals as goal

pub returns-then-not-lent : goal.returns-then-not-lent
returns-then-not-lent c = not_lent _ _ _ _ _ _ (is_no _ _ c.lent.ensures c.if-not-lent.true)

pub returns-then-cell-max : goal.returns-then-cell-max
returns-then-cell-max c =
    let lent = is_yes _ _ c.lent.ensures c.if-not-lent.false in
    not_near _ _ _ _ _ _ lent _ c.cell.ensures (omega (arith, c.if-cell-max.true, c.max.ensures))

pub returns : goal.returns
returns c =
    let lent = is_yes _ _ c.lent.ensures c.if-not-lent.false in
    near _ _ _ _ _ _ lent _ c.cell.ensures (omega (arith, c.if-cell-max.false, c.max.ensures)) (omega (arith, c.if-cell-max.false, c.max.ensures))
