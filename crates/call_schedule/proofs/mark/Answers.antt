use Rattle.call_schedule.proofs.Pushing.{mark_made}
use Rattle.call_offer.proofs.Readings.{marks_in_lem}
use native.Mathlib.Omega.{arith}
use Prim.Native.Nat.{ℕ}
use mathlib.Core.Path.{refl, ap, ◌∙◌}
use Rattle.table_shift.specs.Shift.{put_words}
use Rattle.table_marks.specs.Marks.{ids_of, placed}
use Rattle.spec_network.specs.Tables.{sizes_at, cell}
use Rattle.call_schedule.proofs.mark.Goals as goal

pub ids_start-start-requires : goal.ids_start-start-requires
ids_start-start-requires c = let a = c.args in
    omega (arith, marks_in_lem a.to (sizes_at a.setup.now).tills (sizes_at a.setup.now).seen_slots c.requires.1, c.requires.0.size)

pub insert-requires : goal.insert-requires
insert-requires c = let a = c.args in
    omega (arith, marks_in_lem a.to (sizes_at a.setup.now).tills (sizes_at a.setup.now).seen_slots c.requires.1, c.requires.0.size, c.requires.2, c.ids_start-start.ensures)

pub overflow_add-seen : goal.overflow_add-seen
overflow_add-seen c = let a = c.args in
    omega (arith, marks_in_lem a.to (sizes_at a.setup.now).tills (sizes_at a.setup.now).seen_slots c.requires.1, c.requires.0.size, c.requires.2)

pub returns : goal.returns
returns c = let a = c.args in
    mark_made (sizes_at a.setup.now) a.seen.now a.to a.id (cell a.seen.now a.to) _
    (omega (arith, marks_in_lem a.to (sizes_at a.setup.now).tills (sizes_at a.setup.now).seen_slots c.requires.1, c.requires.0.size, c.requires.2)) refl
    (c.insert.ensures ∙ ap (λ (i : ℕ). put_words a.seen.now i (placed a.id (ids_of a.seen.now i (cell a.seen.now a.to)))) c.ids_start-start.ensures)
