use native.Mathlib.Omega.{arith}
use Rattle.math_time.proofs.Rounding as R
use Rattle.math_time.proofs.rounded.Goals as goal

-- `rounded` meets its contract: each need is a fact of `proofs/Rounding.antt`.

pub overflow_mul-low : goal.overflow_mul-low
overflow_mul-low c = omega (arith, R.low_small c.args.digits)

pub overflow_add-whole : goal.overflow_add-whole
overflow_add-whole c = omega (arith, R.whole_small c.args.digits c.requires.digits_bound)

pub overflow_sub-cut : goal.overflow_sub-cut
overflow_sub-cut c = R.unit_pos c.args.drop c.requires.drop_nonzero.1

pub returns-then-cut-half : goal.returns-then-cut-half
returns-then-cut-half c = R.under c.args.digits c.args.drop c.requires.drop_nonzero.0 c.requires.drop_nonzero.1 c.if-cut-half.true

pub overflow_add-result : goal.overflow_add-result
overflow_add-result c = omega (arith, R.kept_small c.args.digits c.args.drop c.requires.digits_bound)

pub returns-then-half-cut : goal.returns-then-half-cut
returns-then-half-cut c = R.over c.args.digits c.args.drop c.requires.drop_nonzero.0 c.requires.drop_nonzero.1 c.if-half-cut.true

pub overflow_add-result-then-rest-gt0 : goal.overflow_add-result-then-rest-gt0
overflow_add-result-then-rest-gt0 c = omega (arith, R.kept_small c.args.digits c.args.drop c.requires.digits_bound)

pub returns-then-rest-gt0 : goal.returns-then-rest-gt0
returns-then-rest-gt0 c = R.over_rest c.args.digits c.args.drop c.requires.drop_nonzero.0 c.requires.drop_nonzero.1 c.if-cut-half.false c.if-half-cut.false c.if-rest-gt0.true

pub overflow_add-result-2 : goal.overflow_add-result-2
overflow_add-result-2 c = omega (arith, R.kept_small c.args.digits c.args.drop c.requires.digits_bound)

pub returns : goal.returns
returns c = R.tie c.args.digits c.args.drop c.requires.drop_nonzero.0 c.requires.drop_nonzero.1 c.if-cut-half.false c.if-half-cut.false c.if-rest-gt0.false
