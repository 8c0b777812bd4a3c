use mathlib.Core.Path.{◌≡◌, ap, ◌∙◌}
use mathlib.Core.List.{◌++◌, append_assoc}
use Prim.Native.Nat.{ℕ, ◌+◌, ◌-◌}
use native.Mathlib.Omega.{arith}
use lib.ListN.{take, drop}
use Rattle.table_shift.specs.Shift.{closed}
use Rattle.table_shift.proofs.Laws.{closed_still}
use Rattle.table_shift.proofs.move_down.Goals as goal

pub returns-then-by-eq0 : goal.returns-then-by-eq0
returns-then-by-eq0 c = let a = c.args in closed_still a.ws.now a.from a.to a.by c.requires.1 c.if-by-eq0.true

pub returns : goal.returns
unfolding closed
returns c = let a = c.args in
    let w = a.ws.now in
    let end : a.from - a.by + (a.to - a.from) ≡ a.to - a.by = omega arith in
    c.copy_within.ensures.after ∙ append_assoc (take (a.from - a.by) w) (take (a.to - a.from) (drop a.from w)) _
    ∙ ap (λ (j : ℕ). take (a.from - a.by) w ++ (take (a.to - a.from) (drop a.from w) ++ drop j w)) end
