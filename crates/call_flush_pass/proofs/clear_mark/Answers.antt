use native.Mathlib.Omega.{arith}
use mathlib.Core.Path.{◌∙◌}
use Rattle.table_marks.proofs.Tills.{places_end}
use Rattle.call_flush_pass.proofs.Seen.{ids_room, unmark_made, echo_kept, original_cleared}
use Rattle.call_flush_pass.proofs.clear_mark.Goals as goal

pub returns-then-c-eq0 : goal.returns-then-c-eq0
returns-then-c-eq0 c = let a = c.args in echo_kept a.z.tills a.z.slots a.c a.seen.now c.if-c-eq0.true

pub overflow_mul-at : goal.overflow_mul-at
overflow_mul-at c = let a = c.args in let p = places_end a.z.tills a.z.slots a.c.delivery.to c.requires.0 in record { fits = omega (arith, p, c.requires.1.size) }

pub overflow_add-z : goal.overflow_add-z
overflow_add-z c = let a = c.args in let p = places_end a.z.tills a.z.slots a.c.delivery.to c.requires.0 in record { fits = omega (arith, p, c.requires.1.size) }

pub remove-left-requires : goal.remove-left-requires
remove-left-requires c = let a = c.args in ids_room a.z.tills a.z.slots a.seen.now c.requires.1 a.c.delivery.to 0 c.requires.0

pub returns : goal.returns
returns c = let a = c.args in
    unmark_made a.z.tills a.z.slots a.seen.now c.requires.1 a.c.delivery.to a.c.id c.requires.0 _ _ c.remove-left.ensures.table c.remove-left.ensures.left
    ∙ original_cleared a.z.tills a.z.slots a.c a.seen.now c.if-c-eq0.false
