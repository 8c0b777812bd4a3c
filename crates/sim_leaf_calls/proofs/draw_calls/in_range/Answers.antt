use mathlib.Core.Path.{sym, subst}
use lib.Ieee.{of_bits}
use lib.Dec.{T}
use Rattle.sim_leaf_calls.proofs.draw_calls.in_range.Goals as goal

pub returns-then-x : goal.returns-then-x
unfolding of_bits
returns-then-x c = λ t. (subst T (sym c.if-x.true) tt, subst T (sym t) tt)
