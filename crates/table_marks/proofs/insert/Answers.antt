use Rattle.table_marks.proofs.Both.{more_apart, more_merged}
use Rattle.table_marks.proofs.insert.Goals as goal

pub returns-then-n-eq-NEWEST : goal.returns-then-n-eq-NEWEST
returns-then-n-eq-NEWEST c = let a = c.args in
    more_merged a.seen.now a.start a.count a.id c.requires c.insert_in.new.seen c.settle_at.new.seen
    c.if-n-eq-NEWEST.true c.insert_in.ensures c.settle_at.ensures

pub returns-else-n-eq-NEWEST : goal.returns-else-n-eq-NEWEST
returns-else-n-eq-NEWEST c = let a = c.args in
    more_apart a.seen.now a.start a.count a.id c.requires c.insert_in.new.seen c.if-n-eq-NEWEST.false
    c.insert_in.ensures
