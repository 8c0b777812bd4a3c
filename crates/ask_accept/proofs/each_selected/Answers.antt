use Rattle.ask_accept.proofs.Ways.{scan_skip, scan_on, scan_off, scan_end}
use mathlib.Core.Path.{sym, ◌∙◌}
use native.Mathlib.Omega.{arith}
use Prim.Native.Nat.{◌<◌}
use Rattle.call_offer.specs.Offering.{selects_at}
use Rattle.spec_network.specs.Tables.{sizes_at}
use Rattle.ask_accept.proofs.each_selected.Goals.{else-selects-via-then-selects+else-not-test, else-selects-via-else-selects}
use Rattle.ask_accept.proofs.each_selected.Goals as goal

pub returns-then-not-test : goal.returns-then-not-test
returns-then-not-test g c = let a = c.args in
    let to = c.loop-to.to in
    let h : to < (sizes_at a.setup.now).tills = omega (arith, c.loop-to-test.true) in
    let told = c.requires.1.1.1 to c.test.result h c.test.ensures in
    sym (c.loop-to.invariant ∙ scan_off (λ t. selects_at a.tills.now a.m.scope a.m.from t) g.passes (sizes_at a.setup.now).tills to h (sym c.selects.ensures ∙
    c.if-selects.true) (sym told ∙ c.if-not-test.true))

pub loop-to-preserved : goal.loop-to-preserved
loop-to-preserved g c = let a = c.args in
    let to = c.loop-to.to in
    let n = (sizes_at a.setup.now).tills in
    let h : to < (sizes_at a.setup.now).tills = omega (arith, c.loop-to-test.true) in
    elim c.else-selects.branch [
      | else-selects-via-then-selects+else-not-test w ↦
          c.loop-to.invariant
          ∙ scan_on (λ t. selects_at a.tills.now a.m.scope a.m.from t) g.passes n to h (sym c.selects.ensures ∙ w.if-selects.true)
          (sym (c.requires.1.1.1 to w.test.result h w.test.ensures) ∙ w.if-not-test.false)
      | else-selects-via-else-selects w ↦
          c.loop-to.invariant ∙ scan_skip (λ t. selects_at a.tills.now a.m.scope a.m.from t) g.passes n to h (sym c.selects.ensures ∙ w.if-selects.false)
    ]

pub returns : goal.returns
returns g c = let a = c.args in
    scan_end (λ t. selects_at a.tills.now a.m.scope a.m.from t) g.passes (sizes_at a.setup.now).tills c.loop-to.to (omega (arith, c.loop-to-test.false)) ∙ sym c.loop-to.invariant
