use mathlib.Core.Bool.{not}
use mathlib.Core.Path.{ap}
use mathlib.Core.List.{◌∷◌, []}
use Rattle.bench_tables.specs.Answers.{push_of}
use Rattle.bench_tables.proofs.Laws.{refused, made, as_found, one_left, push_room, pushed}
use Rattle.bench_tables.proofs.logs.tables_log_push.Goals as goal

pub returns-then-not-push_fits : goal.returns-then-not-push_fits
unfolding push_of
returns-then-not-push_fits c = refused _ _ _ _ _ c.push_fits.ensures (ap not c.if-not-push_fits.true) (as_found _ (c.args.log.now ∷ []) c.unfit.ensures)

pub get-d-requires : goal.get-d-requires
get-d-requires c = (push_room c.args.log.now c.args.capacity _
    c.args.row.now c.push_fits.ensures (ap not c.if-not-push_fits.false)).0

pub push-requires : goal.push-requires
push-requires c = let a = c.args in
    (push_room a.log.now a.capacity _
    a.row.now c.push_fits.ensures (ap not c.if-not-push_fits.false)).1.1

pub returns : goal.returns
unfolding push_of
returns c = let a = c.args in
    made _ _ _ _ _ c.push_fits.ensures (ap not c.if-not-push_fits.false)
    (one_left _ _ _ _ c.valued.ensures
    (pushed a.log.now
    a.capacity
    a.row.now _ _
    c.get-d.ensures c.push.ensures))
