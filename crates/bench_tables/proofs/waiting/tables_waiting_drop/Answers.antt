use mathlib.Core.Bool.{not}
use mathlib.Core.Path.{ap}
use mathlib.Core.List.{◌∷◌, []}
use Rattle.bench_tables.specs.Answers.{drop_of}
use Rattle.bench_tables.proofs.Laws.{refused, made, as_found, one_left, drop_room}
use Rattle.bench_tables.proofs.waiting.tables_waiting_drop.Goals as goal

pub returns-then-not-drop_fits : goal.returns-then-not-drop_fits
unfolding drop_of
returns-then-not-drop_fits c = refused _ _ _ _ _ c.drop_fits.ensures (ap not c.if-not-drop_fits.true) (as_found _ (c.args.ws.now ∷ []) c.unfit.ensures)

pub drop_front-requires : goal.drop_front-requires
drop_front-requires c = drop_room c.args.ws.now c.args.n _
    c.args.k c.drop_fits.ensures (ap not c.if-not-drop_fits.false)

pub returns : goal.returns
unfolding drop_of
returns c = made _ _ _ _ _ c.drop_fits.ensures (ap not c.if-not-drop_fits.false)
    (one_left _ _ _ _ c.valued.ensures c.drop_front.ensures)
