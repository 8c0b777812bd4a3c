use mathlib.Core.Path.{◌≡◌, ap, ◌∙◌}
use mathlib.Core.List.{List}
use Prim.Native.Nat.{ℕ}
use native.Mathlib.Omega.{arith}
use lib.ListN.{length, drop, length-drop}
use lib.Seq.{length-take-le, take_at}
use Rattle.table_marks.specs.Marks.{ids_of}
use Rattle.table_marks.proofs.Search.{part_is}
use Rattle.table_marks.proofs.Parts.{settled}
use Rattle.table_marks.proofs.settle.Goals as goal

pub returns : goal.returns
returns c = let a = c.args in
    let w = a.ws.now in
    let x : List ℕ = c.copy_from_slice.new.self in
    let is : x ≡ ids_of w a.k a.n = c.copy_from_slice.ensures.after ∙ part_is w a.k a.n in
    let long : length x ≡ a.n = ap length is ∙ length-take-le a.n (drop a.k w) (rw length-drop (omega arith)) in
    settled w a.k a.n c.requires.1 _ c.move_up.new.ws c.merge.new.ws (take_at x _ a.n long ∙ is) c.move_up.ensures c.merge.ensures
