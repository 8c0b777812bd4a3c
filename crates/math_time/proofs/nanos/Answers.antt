use Rattle.math_time.proofs.Limits.{in_limits}
use Rattle.math_time.specs.Seconds.{second, millisecond}
use Prim.Native.Nat.{◌≤◌, ◌*◌, ◌^◌}
use mathlib.Core.Path.{◌≡◌, sym, subst, ◌∙◌}
use mathlib.Core.Bool.{true}
use lib.Dec.{T}
use lib.Ieee.{Float, binary64, fits}
use Rattle.math_time.proofs.Pattern.{is_no_nan, exponent_le, drop_in, digits_lt, rounded_is}
use Rattle.math_time.proofs.nanos.Goals as goal

-- `nanos` meets its contract: each need is a fact of `proofs/Pattern.antt`.

-- what the type says of a float, as a fact of `T`
held : (x : Float) → fits binary64 x ≡ true → T (fits binary64 x)
held x e = subst T (sym e) tt

pub float_to_bits-bits : goal.float_to_bits-bits
float_to_bits-bits c = is_no_nan c.args.x (held c.args.x c.well_formed.0.1) c.requires.0 c.requires.1

pub overflow_sub-exponent : goal.overflow_sub-exponent
overflow_sub-exponent c = exponent_le c.args.x (held c.args.x c.well_formed.0.1) c.requires.0 c.requires.1

pub rounded-requires : goal.rounded-requires
rounded-requires c = record {
  digits_bound = digits_lt c.args.x (held c.args.x c.well_formed.0.1) c.requires.0 c.requires.1;
  drop_nonzero = drop_in c.args.x (held c.args.x c.well_formed.0.1) c.requires.0 c.requires.1;
}

pub returns : goal.returns
returns c =
    let e = c.rounded.ensures ∙ rounded_is c.args.x (held c.args.x c.well_formed.0.1) c.requires.0 c.requires.1 in
    let l = in_limits c.args.x c.requires in
    (e, subst (λ r. millisecond ≤ r) (sym e) l.0, subst (λ r. r ≤ 2 ^ 26 * second) (sym e) l.1)
