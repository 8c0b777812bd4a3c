use Prim.Native.Nat.{ℕ}
use Rattle.math_time.specs.Seconds.{InRange, nanos, seconds, times}
use mathlib.Core.Path.{◌≡◌, sym, subst, ap, ◌∙◌}
use lib.Ieee.{Float, mul, binary64}
use Rattle.math_time.proofs.Time.mul_f64.Goals as goal

product : (n : ℕ) (y : Float) {s : Float} → s ≡ seconds n → nanos (mul binary64 y s) ≡ times n y
unfolding times
product n y e = ap (λ x. nanos (mul binary64 y x)) e

pub from_secs_f64-requires : goal.from_secs_f64-requires
from_secs_f64-requires c = subst (λ x. InRange (mul binary64 c.args.by x)) (sym c.as_secs_f64.ensures) c.requires

pub returns : goal.returns
returns c = (c.from_secs_f64.ensures.0 ∙ product c.args.self.ns c.args.by c.as_secs_f64.ensures, c.from_secs_f64.ensures.1, c.from_secs_f64.ensures.2)
