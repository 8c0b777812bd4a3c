use Rattle.ask_tables.proofs.Ladder.{is_no, is_yes}
use Rattle.call_flush.proofs.Call.{not_lent, too_late, in_time}
use Rattle.call_flush.proofs.refusal.Goals as goal

pub returns-then-not-lent : goal.returns-then-not-lent
returns-then-not-lent c = let a = c.args in
    not_lent a.read.setup.now a.net.now a.read.tills.now a.seen.now a.waiting.now a.read.blocks.now a.log.now a.at 0
    (is_no _ _ c.lent.ensures c.if-not-lent.true)

pub returns-then-at-gt-LATEST : goal.returns-then-at-gt-LATEST
returns-then-at-gt-LATEST c = let a = c.args in
    too_late a.read.setup.now a.net.now a.read.tills.now a.seen.now a.waiting.now a.read.blocks.now a.log.now a.at 0
    (is_yes _ _ c.lent.ensures c.if-not-lent.false) c.if-at-gt-LATEST.true

pub returns : goal.returns
returns c = let a = c.args in
    in_time a.read.setup.now a.net.now a.read.tills.now a.seen.now a.waiting.now a.read.blocks.now a.log.now a.at 0
    (is_yes _ _ c.lent.ensures c.if-not-lent.false) c.if-at-gt-LATEST.false
