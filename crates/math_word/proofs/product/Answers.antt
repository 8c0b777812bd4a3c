use Rattle.std.proofs.Common.{◌/◌, ◌^◌, arith}
use Rattle.math_word.proofs.Laws.{bound, high_made, low_made}
use Rattle.math_word.proofs.product.Goals as goal

pub overflow_mul-w0 : goal.overflow_mul-w0
overflow_mul-w0 c = omega (arith, bound c.low_half-u0.result c.low_half-v0.result c.low_half-u0.ensures.1 c.low_half-v0.ensures.1)

pub overflow_mul-t : goal.overflow_mul-t
overflow_mul-t c = omega (arith, bound (c.args.u / 2 ^ 32) c.low_half-v0.result (omega arith) c.low_half-v0.ensures.1)

pub overflow_add-t : goal.overflow_add-t
overflow_add-t c = omega (arith, bound (c.args.u / 2 ^ 32) c.low_half-v0.result (omega arith) c.low_half-v0.ensures.1, bound c.low_half-u0.result c.low_half-v0.result c.low_half-u0.ensures.1 c.low_half-v0.ensures.1)

pub overflow_mul-w1 : goal.overflow_mul-w1
overflow_mul-w1 c = omega (arith, bound c.low_half-u0.result (c.args.v / 2 ^ 32) c.low_half-u0.ensures.1 (omega arith))

pub overflow_add-w1 : goal.overflow_add-w1
overflow_add-w1 c = omega (arith, bound c.low_half-u0.result (c.args.v / 2 ^ 32) c.low_half-u0.ensures.1 (omega arith))

pub overflow_mul-high : goal.overflow_mul-high
overflow_mul-high c = omega (arith, bound (c.args.u / 2 ^ 32) (c.args.v / 2 ^ 32) (omega arith) (omega arith))

pub overflow_add-high : goal.overflow_add-high
overflow_add-high c = omega (arith, bound (c.args.u / 2 ^ 32) (c.args.v / 2 ^ 32) (omega arith) (omega arith), bound (c.args.u / 2 ^ 32) c.low_half-v0.result (omega arith) c.low_half-v0.ensures.1, bound c.low_half-u0.result c.low_half-v0.result c.low_half-u0.ensures.1 c.low_half-v0.ensures.1)

pub overflow_add-high-2 : goal.overflow_add-high-2
overflow_add-high-2 c = omega (arith, bound (c.args.u / 2 ^ 32) (c.args.v / 2 ^ 32) (omega arith) (omega arith), bound (c.args.u / 2 ^ 32) c.low_half-v0.result (omega arith) c.low_half-v0.ensures.1, bound c.low_half-u0.result c.low_half-v0.result c.low_half-u0.ensures.1 c.low_half-v0.ensures.1, bound c.low_half-u0.result (c.args.v / 2 ^ 32) c.low_half-u0.ensures.1 (omega arith))

pub returns : goal.returns
returns c = let a = c.args.u in
    let b = c.args.v in
    let u = c.low_half-u0 in
    let v = c.low_half-v0 in
    let t = c.low_half in
    (high_made a b u.result v.result t.result u.ensures.0 v.ensures.0 t.ensures.0, low_made a b u.result v.result t.result u.ensures.0 v.ensures.0 t.ensures.0 _ _ c.low_half-2.ensures.0 c.low_half-3.ensures.0)
