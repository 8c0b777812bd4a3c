use Rattle.ask_accept.proofs.Ways.{count_on, count_end, byte_small}
use native.Mathlib.Omega.{arith}
use Rattle.call_offer.specs.Offering.{selects_at}
use Rattle.spec_network.specs.Tables.{sizes_at}
use mathlib.Core.Bool.{true}
use Rattle.ask_accept.proofs.selected.Goals as goal

pub bounds-setup-0 : goal.bounds-setup-0
bounds-setup-0 c = omega (arith, c.requires.setup_size)

pub loop-to-init : goal.loop-to-init
loop-to-init c = (omega arith, omega arith)

pub selects-requires : goal.selects-requires
selects-requires c = (omega (arith, c.loop-to-test.true, c.requires.tills_size), c.requires.scope)

pub overflow_add-c : goal.overflow_add-c
overflow_add-c c = omega (arith, byte_small c.selects.result, c.from-c.ensures, c.loop-to.invariant.0, c.loop-to-test.true, c.requires.few)

pub loop-to-preserved : goal.loop-to-preserved
loop-to-preserved c = (
  omega (arith, byte_small c.selects.result, c.from-c.ensures, c.loop-to.invariant.0),
  omega (
    arith,
    c.loop-to.invariant.1,
    count_on (λ t. selects_at c.args.tills.now c.args.m.scope c.args.m.from t) (λ t. true) (sizes_at c.args.setup.now).tills
        c.loop-to.to c.from-c.result c.selects.result (omega (arith, c.loop-to-test.true)) c.selects.ensures c.from-c.ensures,
  ),
)

pub returns : goal.returns
returns c = record {
  is = omega (
    arith,
    c.loop-to.invariant.1,
    count_end (λ t. selects_at c.args.tills.now c.args.m.scope c.args.m.from t) (λ t. true) (sizes_at c.args.setup.now).tills c.loop-to.to
        (omega (arith, c.loop-to-test.false)),
  );
  within = omega (arith, c.loop-to.invariant.0, c.requires.few);
}
