use Rattle.link_geography.proofs.Laws.{link_drawn}
use Rattle.link_geography.proofs.drawn_link.Goals as goal

pub returns : goal.returns
returns c = let m = c.range64-millis in
    let r = c.range64-rate in
    link_drawn c.args.c.now m.new.c r.new.c c.args.s m.ensures.0 m.ensures.1 r.ensures.0 r.ensures.1 c.from_millis-base.ensures
