use mathlib.Core.Path.{◌∙◌, ap}
use Rattle.table_marks.specs.Marks.{found_in, older}
use Rattle.table_marks.proofs.Search.{part_is}
use native.Mathlib.Omega.{arith}
use Rattle.table_marks.proofs.Both.{left_old, left_new, less_old, less_new}
use Rattle.table_marks.proofs.remove.Goals as goal

pub refill-requires : goal.refill-requires
refill-requires c = let a = c.args in
    let n = left_old a.seen.now a.start a.count a.id c.requires c.remove_in-left.result (c.has_in.ensures ∙ ap (found_in a.id) (part_is a.seen.now a.start (older a.count)))
    c.if-has_in.true c.remove_in-left.ensures.left in
    omega (arith, n, c.remove_in-left.auto.seen)

pub overflow_add-result : goal.overflow_add-result
overflow_add-result c = let a = c.args in
    let n = left_old a.seen.now a.start a.count a.id c.requires c.remove_in-left.result (c.has_in.ensures ∙ ap (found_in a.id) (part_is a.seen.now a.start (older a.count)))
    c.if-has_in.true c.remove_in-left.ensures.left in
    omega (arith, n)

pub returns-then-has_in : goal.returns-then-has_in
returns-then-has_in c = let a = c.args in
    let k = less_old a.seen.now a.start a.count a.id c.requires c.remove_in-left.new.seen c.refill.new.seen
    c.remove_in-left.result
    (c.has_in.ensures ∙ ap (found_in a.id) (part_is a.seen.now a.start (older a.count))) c.if-has_in.true c.remove_in-left.ensures.left c.remove_in-left.ensures.table c.refill.ensures in
    record { left = k.0; table = k.1 }

pub overflow_add-result-2 : goal.overflow_add-result-2
overflow_add-result-2 c = let a = c.args in
    let n = left_new a.seen.now a.start a.count a.id c.requires c.remove_in-left-2.result
    c.remove_in-left-2.ensures.left in
    omega (arith, n)

pub returns : goal.returns
returns c = let a = c.args in
    let k = less_new a.seen.now a.start a.count a.id c.requires c.remove_in-left-2.new.seen c.remove_in-left-2.result
    (c.has_in.ensures ∙ ap (found_in a.id) (part_is a.seen.now a.start (older a.count))) c.if-has_in.false c.remove_in-left-2.ensures.left c.remove_in-left-2.ensures.table in
    record { left = k.0; table = k.1 }
