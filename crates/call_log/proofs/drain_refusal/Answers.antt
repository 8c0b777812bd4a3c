use Rattle.ask_tables.proofs.Ladder.{is_no, is_yes}
use Rattle.call_log.proofs.Laws.{no_drain_lem, short_drain, may_drain}
use Rattle.call_log.proofs.drain_refusal.Goals as goal

pub returns-then-not-lent : goal.returns-then-not-lent
returns-then-not-lent c = let a = c.args in no_drain_lem a.setup.now a.log.now a.rows (is_no _ _ c.lent.ensures c.if-not-lent.true)

pub returns-then-rows-cell : goal.returns-then-rows-cell
returns-then-rows-cell c = let a = c.args in
    short_drain a.setup.now a.log.now a.rows _ (is_yes _ _ c.lent.ensures c.if-not-lent.false) c.cell.ensures c.if-rows-cell.true

pub returns : goal.returns
returns c = let a = c.args in
    may_drain a.setup.now a.log.now a.rows _ (is_yes _ _ c.lent.ensures c.if-not-lent.false) c.cell.ensures c.if-rows-cell.false
