use Rattle.call_offer.proofs.Readings.{own, everywhere, hosted}
use Rattle.call_offer.proofs.selects.Goals as goal

pub returns-then-to-from : goal.returns-then-to-from
returns-then-to-from c = own c.args.tills.now c.args.scope c.args.from c.args.to c.if-to-from.true

pub returns-then-scope-eq-GLOBAL : goal.returns-then-scope-eq-GLOBAL
returns-then-scope-eq-GLOBAL c = everywhere c.args.tills.now c.args.scope c.args.from c.args.to c.if-to-from.false c.if-scope-eq-GLOBAL.true

pub returns : goal.returns
returns c = hosted c.args.tills.now c.args.scope c.args.from c.args.to c.if-to-from.false c.if-scope-eq-GLOBAL.false _ c.get.ensures _ c.has.ensures
