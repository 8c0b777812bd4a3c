use Rattle.std.proofs.Common.{◌*◌, drop, sym, ap, ◌∙◌, subst, arith}
use Rattle.table_rows.proofs.Fronts.{front_none, front_more, all_failed, all_passed}
use Rattle.table_rows.proofs.all.Goals as goal

pub loop-i-init : goal.loop-i-init
loop-i-init g c = record { in_range = omega arith; so_far = front_none g.R.Row.form g.passes c.args.ws.now c.args.n }

pub loop-i-preserved : goal.loop-i-preserved
loop-i-preserved g c =
    let a = c.args in
    let i = c.loop-i.i in
    let read = c.get.ensures ∙ ap (λ k. g.R.Row.form.read (drop (c.loop-i.i * k) a.ws.now)) (c.WIDTH.ensures ∙ sym g.met.R.Row.wide) in
    let told = c.requires.1.1.1.1 i _ c.loop-i-test.true (subst (λ r. g.F.Fn.post a.test (r, tt) c.test.result) read c.test.ensures) in
    record { in_range = omega arith; so_far = front_more g.R.Row.form g.passes a.ws.now a.n i c.loop-i-test.true (sym told ∙ c.if-not-test.false) c.loop-i.invariant.so_far }

pub returns-then-not-test : goal.returns-then-not-test
returns-then-not-test g c =
    let a = c.args in
    let i = c.loop-i.i in
    let read = c.get.ensures ∙ ap (λ k. g.R.Row.form.read (drop (c.loop-i.i * k) a.ws.now)) (c.WIDTH.ensures ∙ sym g.met.R.Row.wide) in
    let told = c.requires.1.1.1.1 i _ c.loop-i-test.true (subst (λ r. g.F.Fn.post a.test (r, tt) c.test.result) read c.test.ensures) in
    all_failed g.R.Row.form g.passes a.ws.now a.n i c.loop-i-test.true (sym told ∙ c.if-not-test.true) c.loop-i.invariant.so_far

pub returns : goal.returns
returns g c =
    let a = c.args in
    all_passed g.R.Row.form g.passes a.ws.now a.n c.loop-i.i c.loop-i-test.false c.loop-i.invariant.in_range c.loop-i.invariant.so_far
