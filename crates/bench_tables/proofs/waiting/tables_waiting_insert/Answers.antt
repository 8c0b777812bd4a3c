use mathlib.Core.Bool.{not}
use mathlib.Core.Path.{ap}
use mathlib.Core.List.{◌∷◌, []}
use Rattle.bench_tables.specs.Answers.{insert_of}
use Rattle.bench_tables.proofs.Laws.{refused, made, as_found, one_left, insert_room, inserted}
use Rattle.bench_tables.proofs.waiting.tables_waiting_insert.Goals as goal

pub returns-then-not-insert_fits : goal.returns-then-not-insert_fits
unfolding insert_of
returns-then-not-insert_fits c = refused _ _ _ _ _ c.insert_fits.ensures (ap not c.if-not-insert_fits.true) (as_found _ (c.args.ws.now ∷ []) c.unfit.ensures)

pub get-c-requires : goal.get-c-requires
get-c-requires c = (insert_room c.args.ws.now c.args.n _
    c.args.row.now c.insert_fits.ensures (ap not c.if-not-insert_fits.false)).0

pub insert-requires : goal.insert-requires
insert-requires c = let a = c.args in
    (insert_room a.ws.now a.n _
    a.row.now c.insert_fits.ensures (ap not c.if-not-insert_fits.false)).1

pub returns : goal.returns
unfolding insert_of
returns c = let a = c.args in
    made _ _ _ _ _ c.insert_fits.ensures (ap not c.if-not-insert_fits.false)
    (one_left _ _ _ _ c.valued.ensures
    (inserted a.ws.now
    a.n
    a.row.now _ _
    c.get-c.ensures c.insert.ensures))
