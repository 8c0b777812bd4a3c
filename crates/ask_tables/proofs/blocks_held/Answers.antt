use Rattle.table_rows.specs.Rows.{all_of}
use Rattle.table_rows.specs.Table.{rows_of}
use Rattle.spec_network.specs.Tables.{cell, blocks_at, block_form}
use Rattle.ask_tables.specs.Held.{ends_below, blocks_held}
use Rattle.ask_tables.proofs.Ladder.{on, off, last}
use borrow.Author.Tests.{eq-eqb, ne_eqb}
use Prim.Native.Nat.{ℕ}
use Rattle.ask_tables.proofs.Passed.{net_says_lem}
use native.Mathlib.Omega.{arith}
use mathlib.Core.Path.{ap, ◌∙◌}
use Rattle.ask_tables.proofs.blocks_held.Goals as goal

pub returns-then-blocks : goal.returns-then-blocks
unfolding blocks_held
returns-then-blocks c = off _ _ (ne_eqb _ _ c.if-blocks.true)

pub bounds-net-5 : goal.bounds-net-5
bounds-net-5 c = let n = net_says_lem c.args.setup.now c.args.net.now c.requires in omega (arith, n)

pub all_ends_below-requires : goal.all_ends_below-requires
all_ends_below-requires c = let n = net_says_lem c.args.setup.now c.args.net.now c.requires in omega (arith, n)

pub returns : goal.returns
unfolding blocks_held ends_below
returns c = let a = c.args in
    on _ _ _ (eq-eqb _ _ c.if-blocks.false) (last _ _ (c.all_ends_below.ensures ∙ ap
    (λ (k : ℕ). all_of (ends_below k) (rows_of block_form a.blocks.now (cell a.net.now blocks_at))) c.cell.ensures))
