use mathlib.Core.Path.{◌∙◌}
use Rattle.table_waiting.proofs.Placing.{inserted}
use Rattle.table_waiting.proofs.insert.Goals as goal

pub returns : goal.returns
returns c = let a = c.args in
    let p = c.place-p in
    let m = c.move_up_by in
    c.put.ensures ∙ inserted a.ws.now a.n a.c p.result m.new.ws c.requires p.ensures.is m.ensures
