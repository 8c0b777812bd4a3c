use mathlib.Core.Path.{sym, ◌∙◌}
use native.Mathlib.Omega.{arith}
use Rattle.ask_opening.specs.Given.{sized}
use Rattle.ask_opening.proofs.Number.{limited}
use Rattle.ask_opening.proofs.Made.{times, refused, made}
use Rattle.ask_opening.proofs.sizes.table_sizes.Goals as goal

pub returns-then-not-sizes_admitted : goal.returns-then-not-sizes_admitted
returns-then-not-sizes_admitted c = refused c.args.sizes c.args.plan
    (sym c.sizes_admitted.ensures ∙ c.if-not-sizes_admitted.true)

pub overflow_mul-result : goal.overflow_mul-result
overflow_mul-result c = let l = limited (sized c.args.sizes c.args.plan) (sym c.sizes_admitted.ensures ∙ c.if-not-sizes_admitted.false) in
    record { fits = omega (arith, l.tills) }

pub overflow_mul-result-2 : goal.overflow_mul-result-2
overflow_mul-result-2 c = let l = limited (sized c.args.sizes c.args.plan) (sym c.sizes_admitted.ensures ∙ c.if-not-sizes_admitted.false) in
    let t = times _ _ 64 64 l.tills l.tills in
    record { fits = omega (arith, t) }

pub overflow_mul-result-3 : goal.overflow_mul-result-3
overflow_mul-result-3 c = let l = limited (sized c.args.sizes c.args.plan) (sym c.sizes_admitted.ensures ∙ c.if-not-sizes_admitted.false) in
    let t = times _ _ 64 64 l.tills l.tills in
    record { fits = omega (arith, t) }

pub prices_length-requires : goal.prices_length-requires
prices_length-requires c = let l = limited (sized c.args.sizes c.args.plan) (sym c.sizes_admitted.ensures ∙ c.if-not-sizes_admitted.false) in
    (l.tills, l.regions)

pub overflow_mul-result-4 : goal.overflow_mul-result-4
overflow_mul-result-4 c = let l = limited (sized c.args.sizes c.args.plan)
    (sym c.sizes_admitted.ensures ∙ c.if-not-sizes_admitted.false) in
    let t = times _ _ 64 4096 l.tills l.seen in
    record { fits = omega (arith, t) }

pub overflow_add-result : goal.overflow_add-result
overflow_add-result c = let l = limited (sized c.args.sizes c.args.plan)
    (sym c.sizes_admitted.ensures ∙ c.if-not-sizes_admitted.false) in
    let t = times _ _ 64 4096 l.tills l.seen in
    record { fits = omega (arith, t, l.tills) }

pub overflow_mul-result-5 : goal.overflow_mul-result-5
overflow_mul-result-5 c = let l = limited (sized c.args.sizes c.args.plan)
    (sym c.sizes_admitted.ensures ∙ c.if-not-sizes_admitted.false) in
    record { fits = omega (arith, l.waiting) }

pub overflow_mul-result-6 : goal.overflow_mul-result-6
overflow_mul-result-6 c = let l = limited (sized c.args.sizes c.args.plan)
    (sym c.sizes_admitted.ensures ∙ c.if-not-sizes_admitted.false) in
    record { fits = omega (arith, l.types) }

pub overflow_mul-result-9 : goal.overflow_mul-result-9
overflow_mul-result-9 c = let l = limited
    (sized c.args.sizes c.args.plan)
    (sym c.sizes_admitted.ensures ∙ c.if-not-sizes_admitted.false) in
    record { fits = omega (arith, l.log) }

pub overflow_add-result-2 : goal.overflow_add-result-2
overflow_add-result-2 c = let l = limited
    (sized c.args.sizes c.args.plan)
    (sym c.sizes_admitted.ensures ∙ c.if-not-sizes_admitted.false) in
    record { fits = omega (arith, l.log) }

pub returns : goal.returns
returns c = made c.args.sizes c.args.plan _
    (sym c.sizes_admitted.ensures ∙ c.if-not-sizes_admitted.false)
    c.prices_length.ensures
