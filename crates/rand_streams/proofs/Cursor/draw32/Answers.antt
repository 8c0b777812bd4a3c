use Rattle.std.proofs.Common.{arith}
use Rattle.rand_streams.proofs.Laws.{word_there}
use Rattle.rand_streams.proofs.Cursor.draw32.Goals as goal

pub returns : goal.returns
returns c = let l = c.load.ensures in
    (word_there c.args.self.now c.load.new.self l.0 l.1 _ (grind (arith, c.split-i.ensures.1, l.0.count)), record { key = l.0.key; count = omega (arith, l.0.count) })
