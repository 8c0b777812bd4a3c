use Rattle.call_till.proofs.Laws.{marks_room}
use Rattle.call_till.proofs.Ways.{marks_refused, marks_done}
use native.Mathlib.Omega.{arith}
use mathlib.Core.Path.{refl, sym, ap, ◌∙◌}
use mathlib.Core.List.{◌++◌}
use Prim.Native.Nat.{ℕ}
use lib.ListN.{drop}
use Rattle.table_marks.specs.Marks.{ids_of}
use Rattle.spec_network.specs.Tables.{cell}
use Rattle.ask_refusal.proofs.Laws.{number_not_0, left_by}
use Rattle.call_till.proofs.marks_of.Goals as goal

pub returns-in_err-marks : goal.returns-in_err-marks
returns-in_err-marks c = let a = c.args in
    rw (left_by c.from_residual.result c.from_residual.ensures.1) (marks_refused a.setup.now a.seen.now a.out.now a.t _ c.in_err-marks.ensures (number_not_0 _))

pub offset_bounds-seen-t : goal.offset_bounds-seen-t
offset_bounds-seen-t c = omega (arith, marks_room _ _ _ _ (sym c.in_ok-marks.ensures))

pub bounds-seen-t : goal.bounds-seen-t
bounds-seen-t c = omega (arith, marks_room _ _ _ _ (sym c.in_ok-marks.ensures))

pub ids_start-start-requires : goal.ids_start-start-requires
ids_start-start-requires c = omega (arith, marks_room _ _ _ _ (sym c.in_ok-marks.ensures))

pub copy_front-requires : goal.copy_front-requires
copy_front-requires c = let p = marks_room _ _ _ _ (sym c.in_ok-marks.ensures) in (omega (arith, p, c.ids_start-start.ensures), omega (arith, p))

pub list-requires : goal.list-requires
list-requires c = omega (arith, marks_room _ _ _ _ (sym c.in_ok-marks.ensures), c.copy_front.auto)

pub returns : goal.returns
returns c = let a = c.args in
    marks_done a.setup.now a.seen.now a.out.now a.t _ c.in_ok-marks.ensures refl _ _
    (c.copy_front.ensures ∙ ap (λ (i : ℕ). ids_of a.seen.now i (cell a.seen.now a.t) ++ drop (cell a.seen.now a.t) a.out.now) c.ids_start-start.ensures) c.list.ensures
