use Rattle.spec_network.specs.Tables.{sizes_at}
use Rattle.ask_rows.proofs.Tests.{names_column, keys_column}
use Rattle.ask_tables.specs.Held.{names_held}
use Rattle.ask_tables.proofs.Ladder.{on, off, last, is_no, is_yes}
use borrow.Author.Tests.{eq-eqb, ne_eqb}
use mathlib.Core.Path.{◌∙◌}
use Rattle.ask_rows.proofs.names_held.Goals as goal

pub returns-then-names-ne-NAMES_WIDTH : goal.returns-then-names-ne-NAMES_WIDTH
unfolding names_held
returns-then-names-ne-NAMES_WIDTH c = off _ _ (ne_eqb _ _ c.if-names-ne-NAMES_WIDTH.true)

pub returns-then-not-lengths_within : goal.returns-then-not-lengths_within
unfolding names_held
returns-then-not-lengths_within c = on _ _ _ (eq-eqb _ _ c.if-names-ne-NAMES_WIDTH.false) (last _ _ (off _ _ (is_no _ _
    (c.lengths_within.ensures ∙ names_column c.args.names.now (sizes_at c.args.setup.now).types) c.if-not-lengths_within.true)))

pub returns : goal.returns
unfolding names_held
returns c = let a = c.args in on _ _ _ (eq-eqb _ _ c.if-names-ne-NAMES_WIDTH.false) (last _ _
    (on _ _ _ (is_yes _ _ (c.lengths_within.ensures ∙ names_column a.names.now (sizes_at a.setup.now).types) c.if-not-lengths_within.false)
    (last _ _ (c.lengths_within-2.ensures ∙ keys_column a.names.now (sizes_at a.setup.now).shards))))
