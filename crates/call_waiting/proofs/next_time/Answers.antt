use native.Mathlib.Omega.{arith}
use Rattle.ask_tables.proofs.Ladder.{is_no, is_yes}
use Rattle.call_waiting.proofs.Laws.{next_refused, next_none, next_some, first_room, net_long}
use Rattle.call_waiting.proofs.next_time.Goals as goal

pub returns-then-not-lent : goal.returns-then-not-lent
returns-then-not-lent c = let a = c.args in next_refused a.setup.now a.net.now a.waiting.now (is_no _ _ c.lent.ensures c.if-not-lent.true)

pub bounds-net-1 : goal.bounds-net-1
bounds-net-1 c = let a = c.args in omega (arith, net_long a.setup.now a.net.now a.waiting.now (is_yes _ _ c.lent.ensures c.if-not-lent.false))

pub returns-then-net-eq0 : goal.returns-then-net-eq0
returns-then-net-eq0 c = let a = c.args in next_none a.setup.now a.net.now a.waiting.now (is_yes _ _ c.lent.ensures c.if-not-lent.false) c.if-net-eq0.true

pub get-d-requires : goal.get-d-requires
get-d-requires c = let a = c.args in first_room a.setup.now a.net.now a.waiting.now (is_yes _ _ c.lent.ensures c.if-not-lent.false) c.if-net-eq0.false

pub returns : goal.returns
returns c = let a = c.args in
    next_some a.setup.now a.net.now a.waiting.now (is_yes _ _ c.lent.ensures c.if-not-lent.false) c.if-net-eq0.false _ c.get-d.ensures
