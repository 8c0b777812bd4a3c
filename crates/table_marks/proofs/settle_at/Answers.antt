use Rattle.table_marks.proofs.Both.{settled_tail}
use Rattle.table_marks.proofs.settle_at.Goals as goal

pub returns : goal.returns
returns c = let a = c.args in
    settled_tail a.seen.now c.settle.new.ws a.start a.k a.n c.requires.1 c.settle.ensures
