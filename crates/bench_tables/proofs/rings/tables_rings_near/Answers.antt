use mathlib.Core.Path.{◌∙◌, ap}
use mathlib.Core.Bool.{Bool, not}
use Rattle.bench_tables.specs.Answers.{valued, bit, rings_of}
use Rattle.bench_tables.proofs.Laws.{refused, made, rings_room}
use Rattle.bench_tables.proofs.rings.tables_rings_near.Goals as goal

pub returns-then-not-rings_fit : goal.returns-then-not-rings_fit
unfolding rings_of
returns-then-not-rings_fit c = refused _ _ _ _ _ c.rings_fit.ensures (ap not c.if-not-rings_fit.true) c.unfit.ensures

pub rings_near-requires : goal.rings_near-requires
rings_near-requires c = rings_room c.args.ws.now c.args.rings _ c.rings_fit.ensures (ap not c.if-not-rings_fit.false)

pub returns : goal.returns
unfolding rings_of
returns c = made _ _ _ _ _ c.rings_fit.ensures (ap not c.if-not-rings_fit.false) (c.yes_or_no.ensures ∙ ap (λ (x : Bool). valued (bit x)) c.rings_near.ensures)
