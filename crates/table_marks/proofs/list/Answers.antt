use Rattle.table_marks.proofs.Both.{listed_is}
use Rattle.table_marks.proofs.list.Goals as goal

pub returns : goal.returns
returns c = listed_is c.args.ws.now c.settle.new.ws c.args.count c.requires c.settle.ensures
