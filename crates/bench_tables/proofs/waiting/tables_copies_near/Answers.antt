use mathlib.Core.Path.{◌∙◌, ap}
use mathlib.Core.Bool.{Bool, not}
use Rattle.bench_tables.specs.Answers.{valued, bit, copies_of}
use Rattle.bench_tables.proofs.Laws.{refused, made, copies_room}
use Rattle.bench_tables.proofs.waiting.tables_copies_near.Goals as goal

pub returns-then-not-copies_fit : goal.returns-then-not-copies_fit
unfolding copies_of
returns-then-not-copies_fit c = refused _ _ _ _ _ c.copies_fit.ensures (ap not c.if-not-copies_fit.true) c.unfit.ensures

pub copies_near-requires : goal.copies_near-requires
copies_near-requires c = copies_room c.args.ws.now c.args.n _ c.copies_fit.ensures (ap not c.if-not-copies_fit.false)

pub returns : goal.returns
unfolding copies_of
returns c = made _ _ _ _ _ c.copies_fit.ensures (ap not c.if-not-copies_fit.false)
    (c.yes_or_no.ensures ∙ ap (λ (x : Bool). valued (bit x)) c.copies_near.ensures)
