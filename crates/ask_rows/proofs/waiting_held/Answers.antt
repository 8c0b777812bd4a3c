use Rattle.table_scan.specs.declared.Limits.{Limits}
use Rattle.spec_network.specs.Tables.{cell, sizes_at, waiting_at}
use Rattle.table_scan.specs.Scan.{copies_near}
use Rattle.ask_rows.proofs.Tests.{copies_near_lem}
use Rattle.ask_tables.specs.Held.{waiting_held}
use Rattle.ask_tables.proofs.Ladder.{on, off, last}
use borrow.Author.Tests.{eq-eqb, ne_eqb}
use mathlib.Core.Path.{ap, ◌∙◌}
use Rattle.ask_rows.proofs.waiting_held.Goals as goal

pub returns-then-waiting-slots : goal.returns-then-waiting-slots
unfolding waiting_held
returns-then-waiting-slots c = off _ _ (ne_eqb _ _ c.if-waiting-slots.true)

pub returns : goal.returns
unfolding waiting_held
returns c = let a = c.args in on _ _ _ (eq-eqb _ _ c.if-waiting-slots.false) (last _ _
    (c.copies_near.ensures ∙ ap (λ (l : Limits). copies_near l a.waiting.now (cell a.net.now waiting_at)) c.limits.ensures ∙
    copies_near_lem (sizes_at a.setup.now) a.waiting.now (cell a.net.now waiting_at)))
