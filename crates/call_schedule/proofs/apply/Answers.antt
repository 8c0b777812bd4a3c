use Rattle.call_schedule.proofs.Applying.{writes_none, writes_nothing, writes_loss, writes_fault, writes_sent}
use native.Mathlib.Omega.{arith}
use Rattle.call_schedule.proofs.apply.Goals as goal

pub overflow_mul-link : goal.overflow_mul-link
overflow_mul-link c = omega (arith, c.requires.sender)

pub overflow_add-link : goal.overflow_add-link
overflow_add-link c = omega (arith, c.requires.sender, c.requires.below)

pub offset_bounds-words-link : goal.offset_bounds-words-link
offset_bounds-words-link c = omega (arith, c.requires.sender, c.requires.below)

pub bounds-words-link : goal.bounds-words-link
bounds-words-link c = omega (arith, c.requires.sender, c.requires.below, c.requires.words_size)

pub offset_bounds-words-link-in-Fault : goal.offset_bounds-words-link-in-Fault
offset_bounds-words-link-in-Fault c = omega (arith, c.requires.sender, c.requires.below)

pub bounds-words-link-in-Fault : goal.bounds-words-link-in-Fault
bounds-words-link-in-Fault c = omega (arith, c.requires.sender, c.requires.below, c.requires.words_size)

pub bounds-net-4 : goal.bounds-net-4
bounds-net-4 c = omega (arith, c.requires.net_size)

pub send-requires : goal.send-requires
send-requires c = c.requires.sendable _ c.in-Sent.is

pub returns-in-Deduplicated : goal.returns-in-Deduplicated
returns-in-Deduplicated c = let a = c.args in writes_none a.m a.to a.r a.setup.now a.net.now a.words.now a.seen.now a.waiting.now a.rings.now
    a.rules.now c.in-Deduplicated.is

pub returns-in-Partition : goal.returns-in-Partition
returns-in-Partition c = let a = c.args in writes_nothing a.m a.to a.r a.setup.now a.net.now a.words.now a.seen.now a.waiting.now
    a.rings.now a.rules.now c.in-Partition.is

pub returns-in-Loss : goal.returns-in-Loss
returns-in-Loss c = let a = c.args in writes_loss a.m a.to a.r a.setup.now a.net.now a.words.now a.seen.now a.waiting.now a.rings.now
    a.rules.now _ c.in-Loss.is

pub returns-in-Fault : goal.returns-in-Fault
returns-in-Fault c = let a = c.args in writes_fault a.m a.to a.r a.setup.now a.net.now a.words.now a.seen.now a.waiting.now
    a.rings.now a.rules.now _ _ c.in-Fault.is c.fire.ensures

pub returns-in-Sent : goal.returns-in-Sent
returns-in-Sent c = let a = c.args in writes_sent a.m a.to a.r a.setup.now a.net.now a.words.now a.seen.now a.waiting.now a.rings.now
    a.rules.now _ _ _ _ _ _ c.in-Sent.is c.send.ensures
