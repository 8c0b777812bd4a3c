use mathlib.Core.Bool.{not}
use mathlib.Core.Path.{ap}
use mathlib.Core.List.{◌∷◌, []}
use Rattle.bench_tables.specs.Answers.{drain_of}
use Rattle.bench_tables.proofs.Laws.{refused, as_found, drain_room, drained}
use Rattle.bench_tables.proofs.logs.tables_log_drain.Goals as goal

pub returns-then-not-drain_fits : goal.returns-then-not-drain_fits
unfolding drain_of
returns-then-not-drain_fits c = refused _ _ _ _ _ c.drain_fits.ensures (ap not c.if-not-drain_fits.true)
    (as_found _
    (c.args.log.now ∷ c.args.out.now ∷ [])
    c.unfit.ensures)

pub drain-requires : goal.drain-requires
drain-requires c = let a = c.args in
    let room = drain_room a.log.now a.capacity _ a.out.now c.drain_fits.ensures (ap not c.if-not-drain_fits.false) in
    (room.1, room.2)

pub returns : goal.returns
returns c = let a = c.args in
    drained a.log.now
    a.capacity _
    a.out.now
    c.drain_fits.ensures
    (ap not c.if-not-drain_fits.false) _ _ _ _ c.valued.ensures
    c.drain.ensures.many c.drain.ensures.copied
    c.drain.ensures.emptied
