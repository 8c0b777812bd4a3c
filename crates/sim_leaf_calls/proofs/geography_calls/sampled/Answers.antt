use native.Mathlib.Omega.{arith}
use Rattle.link_latency.proofs.Admit.{admitted}
use Rattle.sim_leaf_calls.proofs.geography_calls.sampled.Goals as goal

pub sample_latency-t-requires : goal.sample_latency-t-requires
sample_latency-t-requires c = (
  admitted c.args.c.base.ns c.of_any-fraction.result c.latency_admitted.ensures c.if-not-latency_admitted.false
      c.fraction_admitted.ensures c.if-not-fraction_admitted.false,
  c.if-wire-gt-LONGEST.false,
  omega (arith, c.if-cursor-ge-LATEST.false),
)
