use mathlib.Core.Path.{refl}
use native.Mathlib.Omega.{arith}
use Rattle.ask_refusal.proofs.Laws.{number_not_0, left_by}
use Rattle.ask_rule.proofs.Laws.{passed, is_lent}
use Rattle.call_rule.proofs.Laws.{fired_refused, fired_done}
use Rattle.call_rule.proofs.fired.Goals as goal

pub returns-in_err-lent : goal.returns-in_err-lent
returns-in_err-lent c = let a = c.args in
    rw (left_by c.from_residual.result c.from_residual.ensures.1) (fired_refused a.setup.now a.net.now a.rules.now _ c.in_err-lent.ensures (number_not_0 _) a.id)

pub bounds-net-2 : goal.bounds-net-2
bounds-net-2 c = omega (arith, (passed _ _ _ (is_lent _ _ _ c.in_ok-lent.ensures)).net)

pub fired-requires : goal.fired-requires
fired-requires c = let p = passed _ _ _ (is_lent _ _ _ c.in_ok-lent.ensures) in omega (arith, p.rules, p.count)

pub returns : goal.returns
returns c = let a = c.args in fired_done a.setup.now a.net.now a.rules.now c.in_ok-lent.ensures _ refl a.id _ c.fired.ensures
