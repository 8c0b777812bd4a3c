use Rattle.std.proofs.Common.{ℕ, nat_lt, ap, ◌∙◌}
use Rattle.std.specs.List.{list_all}
use Rattle.spec_network.specs.Lists.{within}
use Rattle.ask_opening_parts.proofs.Scans.{all_is}
use Rattle.ask_opening_parts.proofs.masks_admitted.Goals as goal

pub returns : goal.returns
returns c = c.all_below.ensures ∙ ap (λ (n : ℕ). list_all (λ m. nat_lt m n) c.args.masks.now) c.power.ensures ∙ all_is (λ m. within m c.args.shards) c.args.masks.now
