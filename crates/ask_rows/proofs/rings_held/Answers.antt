use Rattle.spec_network.specs.Live.{rings_of}
use Rattle.table_scan.specs.declared.Limits.{Limits}
use Rattle.spec_network.specs.Tables.{sizes_at}
use Rattle.table_scan.specs.Scan.{rings_near}
use Rattle.ask_rows.proofs.Tests.{rings_near_lem}
use Rattle.ask_tables.specs.Held.{rings_held}
use Rattle.ask_tables.proofs.Ladder.{on, off}
use borrow.Author.Tests.{eq-eqb, ne_eqb}
use mathlib.Core.Path.{ap, ◌∙◌}
use Rattle.ask_rows.proofs.rings_held.Goals as goal

pub returns-then-rings-n : goal.returns-then-rings-n
unfolding rings_held
returns-then-rings-n c = off _ _ (ne_eqb _ _ c.if-rings-n.true)

pub returns : goal.returns
unfolding rings_held
returns c = let a = c.args in on _ _ _ (eq-eqb _ _ c.if-rings-n.false) (c.rings_near.ensures ∙ ap
    (λ (l : Limits). rings_near l (rings_of (sizes_at a.setup.now)) a.rings.now) c.limits.ensures ∙ rings_near_lem (sizes_at a.setup.now)
    (rings_of (sizes_at a.setup.now)) a.rings.now)
