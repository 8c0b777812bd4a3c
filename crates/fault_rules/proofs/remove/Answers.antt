use Rattle.fault_rules.proofs.Laws.{remove_none, table_none, remove_there, table_there}
use Rattle.fault_rules.proofs.remove.Goals as goal

pub returns-in_default : goal.returns-in_default
returns-in_default c =
    let a = c.args in
    let none = c.in_default.ensures in
    (remove_none a.id a.ws.now a.n none, table_none a.id a.ws.now a.n none)

pub returns : goal.returns
returns c =
    let a = c.args in
    let found = c.in-Some.ensures in
    (remove_there a.id a.ws.now a.n _ found.0 found.1, table_there a.id a.ws.now a.n _ found.0 found.1 _ c.move_rows.ensures)
