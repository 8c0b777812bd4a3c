use Rattle.table_marks.proofs.Search.{found_at}
use Rattle.table_marks.proofs.find.Goals as goal

pub returns-clause-is : goal.returns-clause-is
returns-clause-is c = let a = c.args in
    found_at a.ids.now a.id c.halve_four-a.result c.halve_four-b.result c.halve_four-c.result c.halve_on.result
    c.halve_four-a.ensures.is c.halve_four-b.ensures.is c.halve_four-c.ensures.is c.halve_on.ensures.is
