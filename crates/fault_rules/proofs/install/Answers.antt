use Rattle.fault_rules.proofs.Laws.{install_none, install_inexact, install_done}
use Rattle.fault_rules.proofs.install.Goals as goal

pub returns-then-n-ge-SLOTS : goal.returns-then-n-ge-SLOTS
returns-then-n-ge-SLOTS c = let a = c.args in install_none a.ws.now a.n a.ever a.bytes.now c.then-n-ge-SLOTS.either

pub returns-in_default : goal.returns-in_default
returns-in_default c = let a = c.args in install_inexact a.ws.now a.n a.ever a.bytes.now c.if-n-ge-SLOTS.false c.if-ever-ge-MOST.false _ c.read.ensures c.in_default.is

pub returns : goal.returns
returns c = let a = c.args in install_done a.ws.now a.n a.ever a.bytes.now c.if-n-ge-SLOTS.false c.if-ever-ge-MOST.false _ c.read.ensures _ _ c.in-Some.is c.put.ensures
