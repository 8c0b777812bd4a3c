use mathlib.Core.Path.{◌≡◌, ap, ◌∙◌}
use mathlib.Core.List.{◌++◌, append_assoc}
use Prim.Native.Nat.{ℕ, ◌+◌, ◌-◌}
use native.Mathlib.Omega.{arith}
use lib.ListN.{take, drop}
use Rattle.table_shift.specs.Shift.{opened}
use Rattle.table_shift.proofs.move_up.Goals as goal

pub returns : goal.returns
unfolding opened
returns c = let a = c.args in
    let w = a.ws.now in
    let end : a.from + a.by + (a.to - a.from) ≡ a.to + a.by = omega arith in
    c.copy_within.ensures.after ∙ append_assoc (take (a.from + a.by) w) (take (a.to - a.from) (drop a.from w)) _
    ∙ ap (λ (j : ℕ). take (a.from + a.by) w ++ (take (a.to - a.from) (drop a.from w) ++ drop j w)) end
