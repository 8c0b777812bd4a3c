use Rattle.std.specs.Prelude.{◌≡◌, ◌-◌}
use Rattle.link_geography.specs.Geography.{Stands, row_count, priced_row}
use Rattle.link_prices.proofs.price_row.Given as goal

abbrev pub invariant-loop-b : goal.invariant-loop-b
invariant-loop-b l = record {
  row : l.prices ≡ priced_row l.initial.c.key l.regions l.a (l.b - l.a) l.initial.prices;
  cursor : Stands l.initial.c.key (row_count l.initial.c.key l.a l.initial.c.count (l.b - l.a)) l.c;
}
