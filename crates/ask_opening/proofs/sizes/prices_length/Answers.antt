use mathlib.Core.Path.{refl}
use native.Mathlib.Omega.{arith}
use Rattle.ask_opening.proofs.Made.{times, none_priced, some_priced}
use Rattle.ask_opening.proofs.Sums.{one_region, more_regions}
use Rattle.ask_opening.proofs.sizes.prices_length.Goals as goal

pub returns-then-plan-eq0 : goal.returns-then-plan-eq0
returns-then-plan-eq0 c = none_priced c.args.plan c.args.tills c.if-plan-eq0.true

pub returns-then-plan-eq0-2 : goal.returns-then-plan-eq0-2
returns-then-plan-eq0-2 c = some_priced c.args.plan c.args.tills 1 _ c.if-plan-eq0.false (one_region _ c.if-plan-eq0-2.true) refl

pub overflow_mul-result : goal.overflow_mul-result
overflow_mul-result c = let t = times _ _ 16 16 c.requires.1 c.requires.1 in record { fits = omega arith }

pub overflow_mul-result-2 : goal.overflow_mul-result-2
overflow_mul-result-2 c = let t = times _ _ 16 16 c.requires.1 c.requires.1 in record { fits = omega arith }

pub overflow_add-result-2 : goal.overflow_add-result-2
overflow_add-result-2 c = let t = times _ _ 16 16 c.requires.1 c.requires.1 in record { fits = omega (arith, c.requires.0) }

pub returns : goal.returns
returns c = some_priced c.args.plan c.args.tills _ _ c.if-plan-eq0.false (more_regions _ c.if-plan-eq0-2.false) refl
