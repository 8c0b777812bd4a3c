use Rattle.std.specs.Prelude.{◌-◌}
use Rattle.std.proofs.Common.{◌∙◌, ap, refl, arith}
use Rattle.link_prices.proofs.Laws.{row_none, row_start, row_room, row_moves, row_writes, row_end, row_done}
use Rattle.link_geography.specs.Geography.{row_count}
use Rattle.link_prices.proofs.price_row.Goals as goal

pub loop-b-init : goal.loop-b-init
loop-b-init c = record { row = row_none _ _ _ _; cursor = row_start _ _ _ refl }

pub price-link-requires : goal.price-link-requires
price-link-requires c = let a = c.args in
    row_room a.c.now.key a.regions a.a (c.loop-b.b - a.a) c.requires.1 c.requires.0 (omega arith)
    (c.loop-b.invariant.cursor.count ∙ ap (λ n. row_count a.c.now.key a.a n (c.loop-b.b - a.a)) c.requires.2)

pub loop-b-preserved : goal.loop-b-preserved
loop-b-preserved c = let a = c.args in
    let l = c.loop-b in
    let i = l.invariant in
    record {
      row = row_writes a.c.now.key a.regions a.a l.b l.auto.b l.prices a.prices.now _ a.c.now.count l.c c.price-link.result c.requires.2 i.cursor c.price-link.ensures.0 i.row c.put_pair.ensures;
      cursor = row_moves a.c.now.key a.regions a.a l.b l.auto.b a.c.now.count l.c c.price-link.new.c i.cursor c.price-link.ensures.1;
    }

pub returns : goal.returns
returns c = let a = c.args in
    let l = c.loop-b in (
      row_done a.c.now.key a.regions a.a l.b l.prices a.prices.now (l.auto.b-end (omega arith)) (omega arith) l.invariant.row,
      row_end a.c.now.key a.regions a.a l.b a.c.now l.c (l.auto.b-end (omega arith)) (omega arith) c.requires.2 l.invariant.cursor,
    )
