use mathlib.Core.Path.{sym, subst}
use lib.Dec.{T}
use mathlib.Core.Bool.{not}
use Rattle.call_open_writes.proofs.settings.rate_bits.Goals as goal

pub float_to_bits-result : goal.float_to_bits-result
float_to_bits-result c = subst (λ b. T (not b)) (sym c.requires) tt
