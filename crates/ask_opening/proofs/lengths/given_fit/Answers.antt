use Rattle.ask_tables.proofs.Ladder.{on, off, last}
use Rattle.ask_opening.proofs.Sums.{key_long, key_other}
use borrow.Author.Tests.{ne_eqb}
use mathlib.Core.Path.{refl, ◌∙◌}
use Rattle.ask_opening.proofs.lengths.given_fit.Goals as goal

pub returns-then-key-eq-KEY : goal.returns-then-key-eq-KEY
returns-then-key-eq-KEY c = on _ _ _ (key_long c.args.key.now c.if-key-eq-KEY.true) (last _ _ refl)

pub returns-else-key-eq-KEY : goal.returns-else-key-eq-KEY
returns-else-key-eq-KEY c = ne_eqb _ _ c.if-key-eq-KEY.false ∙ off _ _ (key_other c.args.key.now c.if-key-eq-KEY.false)
