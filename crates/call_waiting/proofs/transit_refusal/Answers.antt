use Rattle.ask_tables.proofs.Ladder.{is_no, is_yes}
use Rattle.call_waiting.proofs.Laws.{not_lent, is_lent, far_till, near_till_lem}
use Rattle.call_waiting.proofs.transit_refusal.Goals as goal

pub returns-then-not-lent : goal.returns-then-not-lent
returns-then-not-lent c = let a = c.args in not_lent a.setup.now a.net.now a.waiting.now _ (is_no _ _ c.lent.ensures c.if-not-lent.true)

pub returns-then-cell-t : goal.returns-then-cell-t
returns-then-cell-t c = let a = c.args in
    is_lent a.setup.now a.net.now a.waiting.now 4 _ (is_yes _ _ c.lent.ensures c.if-not-lent.false)
    (far_till a.setup.now a.net.now a.waiting.now a.t _ c.cell.ensures c.if-cell-t.true)

pub returns : goal.returns
returns c = let a = c.args in
    is_lent a.setup.now a.net.now a.waiting.now 0 _ (is_yes _ _ c.lent.ensures c.if-not-lent.false)
    (near_till_lem a.setup.now a.net.now a.waiting.now a.t _ c.cell.ensures c.if-cell-t.false)
