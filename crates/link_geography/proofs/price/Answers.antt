use Rattle.link_geography.proofs.Laws.{band_near, band_far, of_band}
use Rattle.link_geography.proofs.price.Goals as goal

pub returns-then-a-b : goal.returns-then-a-b
returns-then-a-b c = of_band c.args.c.now c.drawn_link.new.c _ _ (band_near c.args.a c.args.b c.if-a-b.true) c.drawn_link.ensures

pub returns : goal.returns
returns c = of_band c.args.c.now c.drawn_link-2.new.c _ _ (band_far c.args.a c.args.b c.if-a-b.false) c.drawn_link-2.ensures
