use Rattle.spec_network.specs.Tables.{sizes_at, settings_at}
use Rattle.link_geography.proofs.Laws.{one_most}
use Rattle.ask_rows.specs.HeldRows.{plan_held}
use Rattle.ask_rows.proofs.Tests.{no_plan, by_plan}
use Rattle.ask_tables.proofs.Passed.{setup_says_lem}
use native.Mathlib.Omega.{arith}
use Prim.Native.Nat.{ℕ}
use mathlib.Core.Path.{ap, ◌∙◌}
use Rattle.ask_rows.proofs.prices_held.Goals as goal

pub returns-then-setup-eq0 : goal.returns-then-setup-eq0
returns-then-setup-eq0 c = no_plan c.args.setup.now c.args.prices.now c.if-setup-eq0.true

pub plan_held-requires : goal.plan_held-requires
plan_held-requires c = let p =
    setup_says_lem c.args.setup.now c.requires in (
      omega (arith, c.at_least_one-regions.ensures.1),
      one_most (settings_at c.args.setup.now).plan.regions p.sizes.regions c.at_least_one-regions.ensures.0,
      p.sizes.tills,
    )

pub returns : goal.returns
returns c = let a = c.args in c.plan_held.ensures ∙ ap (λ (k : ℕ). plan_held a.prices.now k (sizes_at a.setup.now).tills)
    c.at_least_one-regions.ensures.0 ∙ by_plan a.setup.now a.prices.now c.if-setup-eq0.false
