use mathlib.Core.Path.{refl}
use Rattle.table_marks.proofs.Both.{filled_none, filled_some}
use Rattle.table_marks.proofs.refill.Goals as goal

pub returns-then-n-eq0 : goal.returns-then-n-eq0
returns-then-n-eq0 c = let a = c.args in filled_none a.seen.now a.start a.left a.n c.requires c.if-n-eq0.true

pub returns : goal.returns
returns c = let a = c.args in
    filled_some a.seen.now a.start a.left a.n c.requires _ c.insert_in.new.seen c.move_down.new.ws
    c.if-n-eq0.false refl c.insert_in.ensures c.move_down.ensures
