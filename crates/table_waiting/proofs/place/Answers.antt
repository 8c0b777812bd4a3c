use Rattle.std.proofs.Common.{◌≡◌, ◌+◌, ◌-◌, not, sym, ap, ◌∙◌, subst, arith}
use Rattle.table_rows.proofs.Fronts.{NoneFrom, last_none, last_passed, last_here, last_first}
use Rattle.table_waiting.specs.Waiting.{form, before}
use Rattle.table_waiting.proofs.place.Goals as goal

pub loop-i-init : goal.loop-i-init
loop-i-init c = let a = c.args in record { in_range = omega arith; so_far = last_none form (λ r. not (before a.c r)) a.ws.now a.n }

pub returns-then-not-is_before-clause-is : goal.returns-then-not-is_before-clause-is
returns-then-not-is_before-clause-is c =
    let a = c.args in
    let at = c.loop-i in
    let no = ap (λ r. not (before a.c r)) (sym c.get-r.ensures) ∙ ap not (sym c.is_before.ensures ∙ c.if-not-is_before.true) in
    let m : at.i ≡ at.i - 1 + 1 = omega arith in
    m ∙ last_here form (λ r. not (before a.c r)) a.ws.now a.n at.i (omega arith) (omega arith) no at.invariant.so_far

pub loop-i-preserved : goal.loop-i-preserved
loop-i-preserved c =
    let a = c.args in
    let at = c.loop-i in
    let yes = ap (λ r. not (before a.c r)) (sym c.get-r.ensures) ∙ ap not (sym c.is_before.ensures ∙ c.if-not-is_before.false) in
    record { in_range = omega arith; so_far = last_passed form (λ r. not (before a.c r)) a.ws.now a.n at.i (omega arith) (omega arith) yes at.invariant.so_far }

pub returns-clause-is : goal.returns-clause-is
returns-clause-is c =
    let a = c.args in
    let at = c.loop-i in
    let z : at.i ≡ 0 = omega arith in
    last_first form (λ r. not (before a.c r)) a.ws.now a.n (subst (λ j. NoneFrom form (λ r. not (before a.c r)) a.ws.now a.n j) z at.invariant.so_far)
