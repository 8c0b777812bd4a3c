use Rattle.spec_network.specs.Tables.{sizes_at}
use Rattle.ask_tables.proofs.Rows.{powers}
use Rattle.ask_tables.specs.Held.{masks_below, tills_held}
use Rattle.ask_tables.proofs.Ladder.{on, off, last}
use borrow.Author.Tests.{eq-eqb, ne_eqb}
use mathlib.Core.Path.{◌∙◌}
use Rattle.ask_tables.proofs.tills_held.Goals as goal

pub returns-then-tills-n : goal.returns-then-tills-n
unfolding tills_held
returns-then-tills-n c = off _ _ (ne_eqb _ _ c.if-tills-n.true)

pub returns : goal.returns
unfolding tills_held masks_below
returns c = let a = c.args in
    let z = sizes_at a.setup.now in
    on _ _ _ (eq-eqb _ _ c.if-tills-n.false) (last _ _ (c.all.ensures ∙ powers z.types z.shards _ _ a.tills.now z.tills c.power-types.ensures c.power-shards.ensures))
