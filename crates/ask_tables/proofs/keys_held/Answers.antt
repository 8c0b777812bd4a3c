use Rattle.spec_network.specs.Tables.{sizes_at}
use Rattle.spec_network.specs.Opening.{most_tills}
use Rattle.ask_tables.proofs.Rows.{product}
use Rattle.ask_tables.proofs.Passed.{setup_says_lem}
use Rattle.ask_tables.specs.Held.{keys_held}
use Rattle.ask_tables.proofs.Ladder.{last}
use native.Mathlib.Omega.{arith}
use mathlib.Core.Path.{refl}
use Rattle.ask_tables.proofs.keys_held.Goals as goal

pub overflow_mul-result : goal.overflow_mul-result
overflow_mul-result c = let p = setup_says_lem c.args.setup.now c.requires in let q =
    product (sizes_at c.args.setup.now).tills (sizes_at c.args.setup.now).tills most_tills most_tills p.sizes.tills p.sizes.tills in omega (arith, p, q)

pub overflow_mul-result-2 : goal.overflow_mul-result-2
overflow_mul-result-2 c = let p = setup_says_lem c.args.setup.now c.requires in let q =
    product (sizes_at c.args.setup.now).tills (sizes_at c.args.setup.now).tills most_tills most_tills p.sizes.tills p.sizes.tills in omega (arith, p, q)

pub returns : goal.returns
unfolding keys_held
returns c = last _ _ refl
