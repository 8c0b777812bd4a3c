use mathlib.Core.Path.{refl, sym, ◌∙◌}
use mathlib.Core.List.{◌∷◌, []}
use borrow.Author.Tests.{lt-ltb, le-ltb}
use Rattle.bench_tables.specs.Answers.{add_of}
use Rattle.bench_tables.proofs.Tests.{yes, no}
use Rattle.bench_tables.proofs.Laws.{as_found, one_left}
use Rattle.bench_tables.proofs.marks.tables_marks_add.Goals as goal

pub returns-then-seen-count : goal.returns-then-seen-count
unfolding add_of
returns-then-seen-count c = no _ _ _ _ (le-ltb _ _ c.if-seen-count.true) (as_found _ (c.args.seen.now ∷ []) c.unfit.ensures)

pub returns-then-has : goal.returns-then-has
unfolding add_of
returns-then-has c = yes _ _ _ _ (lt-ltb _ _ c.if-seen-count.false)
    (yes _ _ _ _ (sym c.has.ensures ∙ c.if-has.true) (one_left _ _ _ _ c.valued.ensures refl))

pub returns : goal.returns
unfolding add_of
returns c = yes _ _ _ _ (lt-ltb _ _ c.if-seen-count.false)
    (no _ _ _ _ (sym c.has.ensures ∙ c.if-has.false)
    (one_left _ _ _ _ c.valued-2.ensures c.insert.ensures))
