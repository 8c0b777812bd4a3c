use Rattle.table_scan.specs.declared.Limits.{Limits}
use Rattle.spec_network.specs.Tables.{sizes_at}
use Rattle.table_scan.specs.Scan.{log_near}
use Rattle.ask_rows.proofs.Tests.{log_near_lem}
use Rattle.ask_tables.specs.Held.{log_held}
use Rattle.ask_tables.proofs.Ladder.{on, off}
use borrow.Author.Tests.{eq-eqb, ne_eqb}
use mathlib.Core.Path.{ap, ◌∙◌}
use Rattle.ask_rows.proofs.log_held.Goals as goal

pub returns-then-log-slots : goal.returns-then-log-slots
unfolding log_held
returns-then-log-slots c = off _ _ (ne_eqb _ _ c.if-log-slots.true)

pub returns : goal.returns
unfolding log_held
returns c = let a = c.args in on _ _ _ (eq-eqb _ _ c.if-log-slots.false) (c.log_near.ensures ∙ ap
    (λ (l : Limits). log_near l (sizes_at a.setup.now).log_slots a.log.now) c.limits.ensures ∙ log_near_lem (sizes_at a.setup.now)
    (sizes_at a.setup.now).log_slots a.log.now)
