use mathlib.Core.Path.{refl}
use native.Mathlib.Omega.{arith}
use lib.ListN.{length-set}
use Rattle.link_geography.specs.Geography.{region_of}
use Rattle.call_open_writes.proofs.Cells.{region_more, regions_all, no_regions}
use Rattle.call_open_writes.proofs.prices.write_regions.Goals as goal

pub loop-t-init : goal.loop-t-init
loop-t-init c = (refl, no_regions (λ t. region_of c.args.seed c.args.regions t) c.args.n 0 c.args.prices.now _ refl (omega arith) refl)

pub loop-t-preserved : goal.loop-t-preserved
loop-t-preserved c = (
  simp length-set c.loop-t.invariant.0,
  region_more (λ t. region_of c.args.seed c.args.regions t) c.args.n c.loop-t.t c.args.prices.now c.loop-t.prices _ (omega arith) c.region_of.ensures.0 c.loop-t.invariant.1,
)

pub returns : goal.returns
returns c = regions_all (λ t. region_of c.args.seed c.args.regions t) c.args.n c.loop-t.t c.args.prices.now c.loop-t.prices c.args.tills (omega arith) c.requires.1 c.loop-t.invariant.1
