use mathlib.Core.Path.{refl, sym}
use native.Mathlib.Omega.{arith}
use Rattle.ask_refusal.proofs.Laws.{number_not_0, left_by}
use Rattle.call_rule.specs.Calls.{message}
use Rattle.ask_rule.proofs.Laws.{decidable}
use Rattle.call_rule.proofs.Laws.{verdict_is, decide_refused, decide_done}
use Rattle.call_rule.proofs.decide.Goals as goal

pub returns-in_err-decide : goal.returns-in_err-decide
returns-in_err-decide c = let a = c.args in
    rw (left_by c.from_residual.result c.from_residual.ensures.1)
    (decide_refused a.setup.now a.net.now a.rules.now (message a.from a.to a.kind a.tier a.at) _ c.in_err-decide.ensures _ refl (number_not_0 _))

pub bounds-net-2 : goal.bounds-net-2
bounds-net-2 c = let a = c.args in
    let p =
    decidable a.setup.now a.net.now a.rules.now
    (message a.from a.to a.kind a.tier a.at)
    (sym c.in_ok-decide.ensures) in
    omega (arith, p.lent.net)

pub bounds-net-4 : goal.bounds-net-4
bounds-net-4 c = let a = c.args in
    let p =
    decidable a.setup.now a.net.now a.rules.now
    (message a.from a.to a.kind a.tier a.at)
    (sym c.in_ok-decide.ensures) in
    omega (arith, p.lent.net)

pub decide-drops-requires : goal.decide-drops-requires
decide-drops-requires c = let a = c.args in
    let p =
    decidable a.setup.now a.net.now a.rules.now
    (message a.from a.to a.kind a.tier a.at)
    (sym c.in_ok-decide.ensures) in
    let at = c.fault_at-c.ensures in (omega (arith, p.lent.rules, p.lent.count), omega (arith, at.count, p.words, p.lent.count))

pub bounds-net-4-2 : goal.bounds-net-4-2
bounds-net-4-2 c = let a = c.args in
    let p =
    decidable a.setup.now a.net.now a.rules.now
    (message a.from a.to a.kind a.tier a.at)
    (sym c.in_ok-decide.ensures) in
    omega (arith, p.lent.net)

pub returns-in-Some : goal.returns-in-Some
returns-in-Some c = let a = c.args in
    decide_done a.setup.now a.net.now a.rules.now (message a.from a.to a.kind a.tier a.at) _ c.in_ok-decide.ensures refl _ _ _ _
    (verdict_is a.setup.now a.net.now a.rules.now (message a.from a.to a.kind a.tier a.at) _ c.decide-drops.new.c.count
    c.fault_at-c.ensures c.in-Some.is c.decide-drops.ensures.0)
    refl refl c.fire.ensures _ refl

pub returns : goal.returns
returns c = let a = c.args in
    decide_done a.setup.now a.net.now a.rules.now (message a.from a.to a.kind a.tier a.at) _ c.in_ok-decide.ensures refl _ _ _ _
    (verdict_is a.setup.now a.net.now a.rules.now (message a.from a.to a.kind a.tier a.at) _ c.decide-drops.new.c.count
    c.fault_at-c.ensures c.in_default.is c.decide-drops.ensures.0)
    refl refl refl _ refl
