use lib.ListN.{length-set}
use mathlib.Core.Path.{refl, sym, ◌∙◌}
use native.Mathlib.Omega.{arith}
use Rattle.ask_refusal.proofs.Laws.{number_not_0, left_by}
use Rattle.ask_rule.proofs.Laws.{installable}
use Rattle.call_rule.proofs.Laws.{installs, install_refused, install_done}
use Rattle.call_rule.proofs.install.Goals as goal

pub returns-in_err-install : goal.returns-in_err-install
returns-in_err-install c = let a = c.args in
    rw (left_by c.from_residual.result c.from_residual.ensures.1)
    (install_refused a.setup.now a.net.now a.rules.now a.card.now _ c.in_err-install.ensures _ refl (number_not_0 _))

pub bounds-net-2 : goal.bounds-net-2
bounds-net-2 c = omega (arith, (installable _ _ _ c.args.card.now (sym c.in_ok-install.ensures)).lent.net)

pub bounds-net-3 : goal.bounds-net-3
bounds-net-3 c = omega (arith, (installable _ _ _ c.args.card.now (sym c.in_ok-install.ensures)).lent.net)

pub install-requires-2 : goal.install-requires-2
install-requires-2 c = omega (arith, (installable _ _ _ c.args.card.now (sym c.in_ok-install.ensures)).lent.rules)

pub unwrap-requires : goal.unwrap-requires
unwrap-requires c = let a = c.args in installs _ a.setup.now a.net.now a.rules.now a.card.now c.install-2.ensures.0 (sym c.in_ok-install.ensures)

pub overflow_add-net : goal.overflow_add-net
overflow_add-net c = omega (arith, (installable _ _ _ c.args.card.now (sym c.in_ok-install.ensures)).count)

pub bounds-net-2-2 : goal.bounds-net-2-2
bounds-net-2-2 c = omega (arith, (installable _ _ _ c.args.card.now (sym c.in_ok-install.ensures)).lent.net)

pub overflow_add-net-2 : goal.overflow_add-net-2
overflow_add-net-2 c = omega (arith, (installable _ _ _ c.args.card.now (sym c.in_ok-install.ensures)).ever)

pub bounds-net-3-2 : goal.bounds-net-3-2
bounds-net-3-2 c = let p = installable _ _ _ c.args.card.now (sym c.in_ok-install.ensures) in
    simp length-set (omega (arith, p.lent.net))

pub returns : goal.returns
returns c = let a = c.args in
    install_done a.setup.now a.net.now a.rules.now a.card.now _ c.in_ok-install.ensures refl _ _ _ _ refl refl
    c.install-2.ensures.1 refl _ refl
