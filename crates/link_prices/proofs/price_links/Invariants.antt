use Rattle.std.specs.Prelude.{◌≡◌}
use Rattle.link_geography.specs.Geography.{Stands, all_count, priced_all}
use Rattle.link_prices.proofs.price_links.Given as goal

abbrev pub invariant-loop-a : goal.invariant-loop-a
invariant-loop-a l = record {
  rows : l.prices ≡ priced_all l.initial.c.key l.n l.a l.initial.prices;
  cursor : Stands l.initial.c.key (all_count l.initial.c.key l.n l.a) l.c;
}
