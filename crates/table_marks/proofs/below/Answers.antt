use mathlib.Core.Path.{sym, ap}
use mathlib.Core.Bool.{Bool, ◌&&◌}
use lib.Dec.{ltb}
use lib.ListN.{get_or}
use native.Mathlib.Omega.{arith}
use borrow.Author.Tests.{lt-ltb, le-ltb}
use Rattle.table_marks.proofs.below.Goals as goal

pub offset_bounds-seen-p : goal.offset_bounds-seen-p
offset_bounds-seen-p c = omega (arith, c.requires c.if-i-k.true)

pub bounds-seen-p : goal.bounds-seen-p
bounds-seen-p c = c.requires c.if-i-k.true

pub returns-then-i-k : goal.returns-then-i-k
returns-then-i-k c = let a = c.args in
    ap (λ (b : Bool). b && ltb (get_or a.seen.now a.p 0) a.id) (sym (lt-ltb a.i a.k c.if-i-k.true))

pub returns : goal.returns
returns c = let a = c.args in
    ap (λ (b : Bool). b && ltb (get_or a.seen.now a.p 0) a.id) (sym (le-ltb a.i a.k c.if-i-k.false))
