use mathlib.Core.Path.{sym, subst, ◌∙◌}
use mathlib.Core.Bool.{Bool, not}
use lib.Dec.{T}
use Rattle.sim_leaf_calls.proofs.draw_calls.bits_of.Goals as goal

pub float_to_bits-result : goal.float_to_bits-result
float_to_bits-result c = subst (λ (b : Bool). T (not b)) (sym (sym c.is_nan.ensures.value ∙ c.if-is_nan.false)) tt
