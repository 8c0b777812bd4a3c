use mathlib.Core.Bool.{not}
use mathlib.Core.Path.{◌∙◌, ap}
use Rattle.bench_tables.specs.Answers.{valued, count_of}
use Rattle.bench_tables.proofs.Laws.{refused, made, ring_room}
use Rattle.bench_tables.proofs.rings.tables_ring_count.Goals as goal

pub returns-then-not-ring_fits : goal.returns-then-not-ring_fits
unfolding count_of
returns-then-not-ring_fits c = refused _ _ _ _ _ c.ring_fits.ensures (ap not c.if-not-ring_fits.true) c.unfit.ensures

pub count-requires : goal.count-requires
count-requires c = ring_room c.args.ws.now c.args.rings _ c.args.r c.ring_fits.ensures
    (ap not c.if-not-ring_fits.false)

pub returns : goal.returns
unfolding count_of
returns c = made _ _ _ _ _ c.ring_fits.ensures (ap not c.if-not-ring_fits.false) (c.valued.ensures ∙ ap valued c.count.ensures)
