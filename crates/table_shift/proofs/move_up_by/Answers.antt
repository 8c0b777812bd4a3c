use native.Mathlib.Omega.{arith}
use Rattle.table_shift.proofs.Blocks.{up_tail}
use Rattle.table_shift.proofs.move_up_by.Goals as goal

pub returns : goal.returns
returns g c = let a = c.args in
    up_tail a.ws.now c.lift.new.ws a.from a.to g.row.BY (omega arith) (omega arith) c.lift.ensures
