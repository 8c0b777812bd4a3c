use Rattle.call_stopped.proofs.Laws.{sender_down, till_down, both_up}
use Rattle.call_stopped.specs.Stopped.{up_at}
use Rattle.fault_blocks.specs.Blocks.{blocked, blocks_of}
use Rattle.ask_tables.proofs.Ladder.{is_no, is_yes}
use Rattle.call_stopped.proofs.stopped.Goals as goal

pub returns-then-not-is_up : goal.returns-then-not-is_up
returns-then-not-is_up c = let a = c.args in sender_down (up_at a.tills.now a.from) (up_at a.tills.now a.to)
    (blocked a.from a.to a.at (blocks_of a.blocks.now a.windows)) (is_no _ _ c.is_up.ensures c.if-not-is_up.true)

pub returns-then-not-is_up-2 : goal.returns-then-not-is_up-2
returns-then-not-is_up-2 c = let a = c.args in till_down (up_at a.tills.now a.from) (up_at a.tills.now a.to)
    (blocked a.from a.to a.at (blocks_of a.blocks.now a.windows))
    (is_yes _ _ c.is_up.ensures c.if-not-is_up.false) (is_no _ _ c.is_up-2.ensures c.if-not-is_up-2.true)

pub returns : goal.returns
returns c = let a = c.args in both_up (up_at a.tills.now a.from) (up_at a.tills.now a.to)
    (blocked a.from a.to a.at (blocks_of a.blocks.now a.windows)) _
    (is_yes _ _ c.is_up.ensures c.if-not-is_up.false) (is_yes _ _ c.is_up-2.ensures c.if-not-is_up-2.false) c.is_blocked.ensures
