use borrow.Author.Rules.{rules}
use Rattle.link_latency.specs.Admitted.{latency_admitted}
use Rattle.link_latency.proofs.latency_admitted.Goals as goal

pub returns : goal.returns
unfolding latency_admitted
returns c = search rules
