use Rattle.std.proofs.Common.{arith, ◌∙◌}
use Rattle.rand_streams.proofs.Laws.{pair_drawn}
use Rattle.rand_streams.proofs.Cursor.draw_twice.Goals as goal

pub returns : goal.returns
returns c = let l = c.draw32-low.ensures in let h = c.draw32-high.ensures in
    (pair_drawn c.args.self.now c.draw32-low.new.self l.1 l.0 h.0 c.joined.ensures, record { key = h.1.key ∙ l.1.key; count = omega (arith, l.1.count, h.1.count) })
