use Rattle.std.proofs.Common.{arith, refl}
use Rattle.link_geography.proofs.Laws.{one_most}
use Rattle.link_prices.proofs.Laws.{all_none, all_start, all_count_lem, all_moves, all_writes, all_done, plan_made}
use Rattle.link_prices.proofs.price_links.Goals as goal

pub loop-a-init : goal.loop-a-init
loop-a-init c = record { rows = all_none _ _ _; cursor = all_start _ _ _ refl c.at-c.ensures.1 }

pub price_row-requires : goal.price_row-requires
price_row-requires c = (omega arith, one_most _ c.requires c.at_least_one-n.ensures.0, all_count_lem c.at-c.result.key c.at_least_one-n.result c.loop-a.a c.loop-a.c c.loop-a.invariant.cursor)

pub loop-a-preserved : goal.loop-a-preserved
loop-a-preserved c = let n = c.at_least_one-n.result in
    let l = c.loop-a in
    let i = l.invariant in
    record {
      rows = all_writes c.at-c.result.key n l.a l.prices c.args.prices.now _ l.c i.cursor i.rows c.price_row.ensures.0;
      cursor = all_moves c.at-c.result.key n l.a l.c c.price_row.new.c i.cursor c.price_row.ensures.1;
    }

pub returns : goal.returns
returns c = let a = c.args in let l = c.loop-a in let n = c.at_least_one-n.result in
    plan_made a.seed a.regions n a.prices.now c.at-c.result c.at_least_one-n.ensures.0 c.links_digest-key.ensures c.at-c.ensures.0
    (all_done c.at-c.result.key n l.a l.prices a.prices.now l.auto.a-end (omega arith) l.invariant.rows)
