use Rattle.std.proofs.Common.{arith}
use Rattle.rand_streams.proofs.Laws.{pair_there}
use Rattle.rand_streams.proofs.Cursor.draw64.Goals as goal

pub returns : goal.returns
returns c = let l = c.load.ensures in let i = c.split-i.ensures.1 in
    (pair_there c.args.self.now c.load.new.self l.0 l.1 _ i (omega (arith, i)) c.joined-value.ensures, record { key = l.0.key; count = omega (arith, l.0.count) })
