use Rattle.ask_tables.proofs.Ladder.{is_no, is_yes}
use Rattle.call_log.proofs.Laws.{no_tally_lem, far_tally, may_tally}
use Rattle.call_log.proofs.tally_refusal.Goals as goal

pub returns-then-not-lent : goal.returns-then-not-lent
returns-then-not-lent c = let a = c.args in no_tally_lem a.setup.now a.log.now a.class (is_no _ _ c.lent.ensures c.if-not-lent.true)

pub returns-then-cell-class : goal.returns-then-cell-class
returns-then-cell-class c = let a = c.args in
    far_tally a.setup.now a.log.now a.class _ (is_yes _ _ c.lent.ensures c.if-not-lent.false) c.cell.ensures c.if-cell-class.true

pub returns : goal.returns
returns c = let a = c.args in
    may_tally a.setup.now a.log.now a.class _ (is_yes _ _ c.lent.ensures c.if-not-lent.false) c.cell.ensures c.if-cell-class.false
