use mathlib.Core.Path.{◌∙◌, ap}
use mathlib.Core.List.{◌∷◌, []}
use borrow.Author.Tests.{le-leb, lt-leb}
use Rattle.bench_tables.specs.Answers.{valued, remove_of}
use Rattle.bench_tables.proofs.Tests.{yes, no}
use Rattle.bench_tables.proofs.Laws.{as_found, one_left}
use Rattle.bench_tables.proofs.marks.tables_marks_remove.Goals as goal

pub returns-then-seen-count : goal.returns-then-seen-count
unfolding remove_of
returns-then-seen-count c = no _ _ _ _ (lt-leb _ _ c.if-seen-count.true) (as_found _ (c.args.seen.now ∷ []) c.unfit.ensures)

pub returns : goal.returns
unfolding remove_of
returns c = yes _ _ _ _ (le-leb _ _ c.if-seen-count.false)
    (one_left _ _ _ _ (c.valued.ensures ∙ ap valued c.remove.ensures.left) c.remove.ensures.table)
