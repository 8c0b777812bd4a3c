use Rattle.link_geography.specs.Geography.{link_width}
use Rattle.ask_rows.proofs.Tests.{regions_column, square}
use Rattle.ask_rows.specs.HeldRows.{plan_held}
use Rattle.ask_tables.proofs.Ladder.{on, off, is_no, is_yes}
use borrow.Author.Tests.{eq-eqb, ne_eqb}
use native.Mathlib.Omega.{arith}
use Prim.Native.Nat.{◌*◌}
use mathlib.Core.Path.{◌∙◌}
use Rattle.ask_rows.proofs.plan_held.Goals as goal

pub overflow_mul-pairs : goal.overflow_mul-pairs
overflow_mul-pairs c = let q = square c.args.regions c.requires.1 in omega (arith, q)

pub overflow_mul-pairs-2 : goal.overflow_mul-pairs-2
overflow_mul-pairs-2 c = let q = square c.args.regions c.requires.1 in omega (arith, q)

pub overflow_add-pairs : goal.overflow_add-pairs
overflow_add-pairs c = let q = square c.args.regions c.requires.1 in omega (arith, q)

pub returns-then-prices-pairs : goal.returns-then-prices-pairs
unfolding plan_held
returns-then-prices-pairs c = off _ _ (ne_eqb _ _ c.if-prices-pairs.true)

pub returns-then-not-links_admitted : goal.returns-then-not-links_admitted
unfolding plan_held
returns-then-not-links_admitted c = on _ _ _ (eq-eqb _ _ c.if-prices-pairs.false) (off _ _ (is_no _ _ c.links_admitted.ensures c.if-not-links_admitted.true))

pub returns : goal.returns
unfolding plan_held
returns c = let a = c.args in on _ _ _ (eq-eqb _ _ c.if-prices-pairs.false)
    (on _ _ _ (is_yes _ _ c.links_admitted.ensures c.if-not-links_admitted.false) (c.column_within.ensures ∙
    regions_column a.prices.now (link_width * (a.regions * a.regions)) a.tills a.regions c.requires.0))
