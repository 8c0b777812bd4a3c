use Rattle.table_marks.proofs.Search.{added}
use Rattle.table_marks.proofs.insert_at.Goals as goal

pub returns : goal.returns
returns c = let a = c.args in added a.seen.now a.start a.count a.id a.p c.move_up_by.new.ws c.requires.1 c.requires.0 c.move_up_by.ensures
