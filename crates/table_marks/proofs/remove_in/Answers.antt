use mathlib.Core.Path.{◌∙◌, sym, ap}
use Rattle.table_marks.specs.Marks.{position}
use native.Mathlib.Omega.{arith}
use Rattle.table_marks.proofs.Search.{part_is, stands, past, kept, gone}
use borrow.Author.Tests.{eq-eqb, ne_eqb}
use Rattle.table_marks.proofs.remove_in.Goals as goal

pub returns-then-count-p : goal.returns-then-count-p
returns-then-count-p c = let a = c.args in
    let k = kept a.seen.now a.start a.count a.id c.requires c.find-p.result (c.find-p.ensures.is ∙ ap (position a.id) (part_is a.seen.now a.start a.count))
    (past a.seen.now a.start a.count a.id c.requires c.find-p.result (c.find-p.ensures.is ∙ ap (position a.id) (part_is a.seen.now a.start a.count)) (omega arith)) in
    record { left = k.0; table = k.1 }

pub returns-then-seen-at : goal.returns-then-seen-at
returns-then-seen-at c = let a = c.args in
    let p = c.find-p.result in
    let k = kept a.seen.now a.start a.count a.id c.requires p (c.find-p.ensures.is ∙ ap (position a.id) (part_is a.seen.now a.start a.count))
    (sym (ne_eqb _ _ c.if-seen-at.true) ∙ stands a.seen.now a.start a.count a.id c.requires p (c.find-p.ensures.is ∙ ap (position a.id) (part_is a.seen.now a.start a.count)) (omega arith)) in
    record { left = k.0; table = k.1 }

pub returns : goal.returns
returns c = let a = c.args in
    let p = c.find-p.result in
    let k = gone a.seen.now a.start a.count a.id c.requires p (c.find-p.ensures.is ∙ ap (position a.id) (part_is a.seen.now a.start a.count)) (omega arith)
    (sym (eq-eqb _ _ c.if-seen-at.false) ∙ stands a.seen.now a.start a.count a.id c.requires p (c.find-p.ensures.is ∙ ap (position a.id) (part_is a.seen.now a.start a.count))
    (omega arith)) c.move_down.new.ws c.move_down.ensures in
    record { left = k.0; table = k.1 }
