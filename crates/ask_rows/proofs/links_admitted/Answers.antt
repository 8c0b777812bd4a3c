use Rattle.ask_rows.proofs.Tests.{link_on, link_off, links_done}
use Rattle.link_geography.specs.Geography.{link_admitted}
use native.Mathlib.Omega.{arith}
use mathlib.Core.Path.{refl, ap, ◌∙◌}
use Rattle.ask_rows.proofs.links_admitted.Goals as goal

pub loop-i-init : goal.loop-i-init
loop-i-init c = (omega arith, refl)

pub returns-then-not-link_admitted : goal.returns-then-not-link_admitted
returns-then-not-link_admitted c =
    link_off c.args.prices.now c.args.n c.loop-i.i c.link_admitted.result (omega arith) (c.link_admitted.ensures ∙ ap link_admitted c.link_in.ensures) c.if-not-link_admitted.true

pub loop-i-preserved : goal.loop-i-preserved
loop-i-preserved c = (
  omega arith,
  link_on c.args.prices.now c.args.n c.loop-i.i c.link_admitted.result (omega arith) (c.link_admitted.ensures ∙ ap link_admitted c.link_in.ensures) c.if-not-link_admitted.false c.loop-i.invariant.1,
)

pub returns : goal.returns
returns c = links_done c.args.prices.now c.args.n c.loop-i.i (omega arith) c.loop-i.invariant.1
