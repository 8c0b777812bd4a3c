use Prim.Native.Nat.{ℕ}
use mathlib.Core.Path.{ap, ◌∙◌}
use Rattle.table_marks.specs.Marks.{ids_of, placed_at, position}
use Rattle.table_shift.specs.Shift.{put_words}
use Rattle.table_marks.proofs.Search.{part_is}
use Rattle.table_marks.proofs.insert_in.Goals as goal

pub returns : goal.returns
returns c = let a = c.args in c.insert_at.ensures ∙ ap (λ (k : ℕ). put_words a.seen.now a.start
    (placed_at k a.id (ids_of a.seen.now a.start a.count))) (c.find-p.ensures.is ∙ ap (position a.id) (part_is a.seen.now a.start a.count))
