use Rattle.std.proofs.Common.{arith}
use Rattle.ask_refusal.proofs.Laws.{number_not_0, left_by}
use Rattle.ask_rule.specs.Questions.{decide_number}
use Rattle.ask_rule.proofs.Laws.{lent_refuses, is_lent, no4, no5, no5_tier, no7, no8, none}
use Rattle.ask_rule.proofs.decide.Goals as goal

pub returns-in_err-lent : goal.returns-in_err-lent
unfolding decide_number
returns-in_err-lent c = rw (left_by c.from_residual.result c.from_residual.ensures.1) (lent_refuses _ _ _ _ _ c.in_err-lent.ensures (number_not_0 _))

pub returns-then-cell-max : goal.returns-then-cell-max
returns-then-cell-max c = let a = c.args in
    no4 a.setup.now a.net.now a.rules.now a.m (is_lent _ _ _ c.in_ok-lent.ensures) (omega (arith, c.cell.ensures, c.max.ensures, c.if-cell-max.true))

pub returns-then-cell-m : goal.returns-then-cell-m
returns-then-cell-m c = let a = c.args in
    no5 a.setup.now a.net.now a.rules.now a.m (is_lent _ _ _ c.in_ok-lent.ensures) (omega (arith, c.cell.ensures, c.max.ensures, c.if-cell-max.false))
    (omega (arith, c.cell-2.ensures, c.if-cell-m.true))

pub returns-then-m-gt-LAST_TIER : goal.returns-then-m-gt-LAST_TIER
returns-then-m-gt-LAST_TIER c = let a = c.args in
    no5_tier a.setup.now a.net.now a.rules.now a.m (is_lent _ _ _ c.in_ok-lent.ensures) (omega (arith, c.cell.ensures, c.max.ensures, c.if-cell-max.false))
    (omega (arith, c.cell-2.ensures, c.if-cell-m.false)) c.if-m-gt-LAST_TIER.true

pub returns-then-m-gt-LATEST : goal.returns-then-m-gt-LATEST
returns-then-m-gt-LATEST c = let a = c.args in
    no7 a.setup.now a.net.now a.rules.now a.m (is_lent _ _ _ c.in_ok-lent.ensures) (omega (arith, c.cell.ensures, c.max.ensures, c.if-cell-max.false))
    (omega (arith, c.cell-2.ensures, c.if-cell-m.false)) c.if-m-gt-LAST_TIER.false c.if-m-gt-LATEST.true

pub returns-then-cell-ge-MOST_WORDS : goal.returns-then-cell-ge-MOST_WORDS
returns-then-cell-ge-MOST_WORDS c = let a = c.args in
    no8 a.setup.now a.net.now a.rules.now a.m (is_lent _ _ _ c.in_ok-lent.ensures) (omega (arith, c.cell.ensures, c.max.ensures, c.if-cell-max.false))
    (omega (arith, c.cell-2.ensures, c.if-cell-m.false)) c.if-m-gt-LAST_TIER.false c.if-m-gt-LATEST.false (omega (arith, c.cell-3.ensures, c.if-cell-ge-MOST_WORDS.true))

pub returns : goal.returns
returns c = let a = c.args in
    none a.setup.now a.net.now a.rules.now a.m (is_lent _ _ _ c.in_ok-lent.ensures) (omega (arith, c.cell.ensures, c.max.ensures, c.if-cell-max.false))
    (omega (arith, c.cell-2.ensures, c.if-cell-m.false)) c.if-m-gt-LAST_TIER.false c.if-m-gt-LATEST.false (omega (arith, c.cell-3.ensures, c.if-cell-ge-MOST_WORDS.false))
