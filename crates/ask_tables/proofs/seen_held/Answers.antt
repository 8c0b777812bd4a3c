use Rattle.spec_network.specs.Tables.{sizes_at}
use Rattle.spec_network.specs.Opening.{most_tills, most_slots}
use Rattle.ask_tables.proofs.Rows.{counts_column, product}
use Rattle.ask_tables.proofs.Passed.{setup_says_lem}
use Rattle.ask_tables.specs.Held.{seen_held}
use Rattle.ask_tables.proofs.Ladder.{on, off, last}
use borrow.Author.Tests.{eq-eqb, ne_eqb}
use native.Mathlib.Omega.{arith}
use mathlib.Core.Path.{◌∙◌}
use Rattle.ask_tables.proofs.seen_held.Goals as goal

pub overflow_mul-n : goal.overflow_mul-n
overflow_mul-n c = let p = setup_says_lem c.args.setup.now c.requires in let q =
    product (sizes_at c.args.setup.now).tills (sizes_at c.args.setup.now).seen_slots most_tills most_slots p.sizes.tills p.sizes.seen_slots in omega (arith, p, q)

pub overflow_add-n : goal.overflow_add-n
overflow_add-n c = let p = setup_says_lem c.args.setup.now c.requires in let q =
    product (sizes_at c.args.setup.now).tills (sizes_at c.args.setup.now).seen_slots most_tills most_slots p.sizes.tills p.sizes.seen_slots in omega (arith, p, q)

pub returns-then-seen-n : goal.returns-then-seen-n
unfolding seen_held
returns-then-seen-n c = off _ _ (ne_eqb _ _ c.if-seen-n.true)

pub returns : goal.returns
unfolding seen_held
returns c = let a = c.args in
    on _ _ _ (eq-eqb _ _ c.if-seen-n.false) (last _ _ (c.column_within.ensures ∙ counts_column a.seen.now (sizes_at a.setup.now).tills
    (sizes_at a.setup.now).seen_slots))
