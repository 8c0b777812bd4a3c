use mathlib.Core.Path.{◌∙◌, ap}
use mathlib.Core.Bool.{Bool}
use borrow.Author.Tests.{le-leb, lt-leb}
use Rattle.bench_tables.specs.Answers.{valued, bit, has_of}
use Rattle.bench_tables.proofs.Tests.{yes, no}
use Rattle.bench_tables.proofs.marks.tables_marks_has.Goals as goal

pub returns-then-seen-count : goal.returns-then-seen-count
unfolding has_of
returns-then-seen-count c = no _ _ _ _ (lt-leb _ _ c.if-seen-count.true) c.unfit.ensures

pub returns : goal.returns
unfolding has_of
returns c = yes _ _ _ _ (le-leb _ _ c.if-seen-count.false) (c.yes_or_no.ensures ∙ ap (λ (x : Bool). valued (bit x)) c.has.ensures)
