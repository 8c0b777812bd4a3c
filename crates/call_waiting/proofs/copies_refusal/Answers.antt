use Rattle.ask_tables.proofs.Ladder.{is_no, is_yes}
use Rattle.call_waiting.proofs.Laws.{not_lent, is_lent, short_out, long_out}
use Rattle.call_waiting.proofs.copies_refusal.Goals as goal

pub returns-then-not-lent : goal.returns-then-not-lent
returns-then-not-lent c = let a = c.args in not_lent a.setup.now a.net.now a.waiting.now _ (is_no _ _ c.lent.ensures c.if-not-lent.true)

pub returns-then-rows-cell : goal.returns-then-rows-cell
returns-then-rows-cell c = let a = c.args in
    is_lent a.setup.now a.net.now a.waiting.now 1 _ (is_yes _ _ c.lent.ensures c.if-not-lent.false)
    (short_out a.setup.now a.net.now a.waiting.now a.rows _ c.cell.ensures c.if-rows-cell.true)

pub returns : goal.returns
returns c = let a = c.args in
    is_lent a.setup.now a.net.now a.waiting.now 0 _ (is_yes _ _ c.lent.ensures c.if-not-lent.false)
    (long_out a.setup.now a.net.now a.waiting.now a.rows _ c.cell.ensures c.if-rows-cell.false)
