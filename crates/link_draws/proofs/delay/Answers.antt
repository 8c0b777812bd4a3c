use Rattle.link_draws.proofs.Laws.{cost_admitted, delayed}
use Rattle.link_draws.proofs.delay.Goals as goal

pub sample_latency-requires : goal.sample_latency-requires
sample_latency-requires c = let a = c.args in (
  (cost_admitted a.setup.now a.prices.now a.from a.to a.bytes c.requires.0 c.cost-k.result
      c.rate.result c.cost-k.ensures c.rate.ensures).0,
  (cost_admitted a.setup.now a.prices.now a.from a.to
      a.bytes c.requires.0 c.cost-k.result c.rate.result c.cost-k.ensures c.rate.ensures).1,
  c.requires.1,
)

pub returns : goal.returns
returns c = let a = c.args in delayed a.setup.now a.prices.now a.from a.to a.bytes c.requires.0 c.cost-k.result a.c.now
    c.rate.result c.rate-2.result c.sample_latency.result.ns c.sample_latency.new.c c.cost-k.ensures c.rate.ensures
    c.rate-2.ensures c.sample_latency.ensures.0 c.sample_latency.ensures.1 c.sample_latency.ensures.3
