use mathlib.Core.Bool.{not}
use mathlib.Core.Path.{◌∙◌, ap}
use mathlib.Core.List.{◌∷◌, []}
use Rattle.table_rings.specs.declared.Entry.{Entry}
use Rattle.bench_tables.specs.Answers.{valued, turn_of}
use Rattle.bench_tables.proofs.Laws.{refused, made, as_found, one_left, ring_room}
use Rattle.bench_tables.proofs.rings.tables_ring_turn.Goals as goal

pub returns-then-not-ring_fits : goal.returns-then-not-ring_fits
unfolding turn_of
returns-then-not-ring_fits c = refused _ _ _ _ _ c.ring_fits.ensures (ap not c.if-not-ring_fits.true) (as_found _ (c.args.ws.now ∷ []) c.unfit.ensures)

pub get-old-requires : goal.get-old-requires
get-old-requires c = ring_room c.args.ws.now c.args.rings _
    c.args.r c.ring_fits.ensures (ap not c.if-not-ring_fits.false)

pub push-requires : goal.push-requires
push-requires c = let a = c.args in
    ring_room a.ws.now a.rings _
    a.r c.ring_fits.ensures (ap not c.if-not-ring_fits.false)

pub returns : goal.returns
unfolding turn_of
returns c = made _ _ _ _ _ c.ring_fits.ensures
    (ap not c.if-not-ring_fits.false)
    (one_left _ _ _ _ (c.valued.ensures ∙ ap (λ (e : Entry). valued e.tag) c.get-old.ensures)
    c.push.ensures)
