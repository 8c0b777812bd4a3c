use mathlib.Core.Bool.{not}
use mathlib.Core.Path.{◌∙◌, ap}
use Rattle.bench_tables.specs.Answers.{valued, due_of}
use Rattle.bench_tables.proofs.Laws.{refused, made, copies_room}
use Rattle.bench_tables.proofs.waiting.tables_waiting_due.Goals as goal

pub returns-then-not-copies_fit : goal.returns-then-not-copies_fit
unfolding due_of
returns-then-not-copies_fit c = refused _ _ _ _ _ c.copies_fit.ensures (ap not c.if-not-copies_fit.true) c.unfit.ensures

pub due-requires : goal.due-requires
due-requires c = copies_room c.args.ws.now c.args.n _ c.copies_fit.ensures (ap not c.if-not-copies_fit.false)

pub returns : goal.returns
unfolding due_of
returns c = made _ _ _ _ _ c.copies_fit.ensures (ap not c.if-not-copies_fit.false) (c.valued.ensures ∙ ap valued c.due.ensures)
