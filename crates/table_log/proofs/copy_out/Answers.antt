use Rattle.std.proofs.Common.{◌≡◌, ℕ, refl, ap, ◌∙◌, arith}
use Rattle.table_delivery.specs.Delivery as delivery
use Rattle.table_rows.specs.Table.{over}
use Rattle.table_ring.specs.Ring.{count_at}
use Rattle.table_log.proofs.Draining.{first_ones, copied_none, copied_more}
use Rattle.table_log.proofs.copy_out.Goals as goal

pub loop-i-init : goal.loop-i-init
loop-i-init c = let a = c.args in (refl, omega arith, refl, copied_none a.capacity a.log.now a.out.now)

pub oldest-d-requires : goal.oldest-d-requires
oldest-d-requires c = (c.requires.0, c.requires.2, omega arith)

pub overflow_mul-i : goal.overflow_mul-i
overflow_mul-i c = let n = c.requires.2.counted in let p = c.requires.1 in let l = c.loop-i.invariant.2 in omega arith

pub put-requires : goal.put-requires
put-requires c = let n = c.requires.2.counted in let p = c.requires.1 in let l = c.loop-i.invariant.2 in omega arith

pub loop-i-preserved : goal.loop-i-preserved
loop-i-preserved c = let a = c.args in
    let at = c.loop-i in
    let n = c.requires.2.counted in
    let p = c.requires.1 in (
      at.invariant.0,
      omega arith,
      c.put.auto.ws ∙ at.invariant.2,
      c.put.ensures ∙ copied_more a.capacity a.log.now a.out.now at.i c.oldest-d.result at.out (omega arith)
          c.oldest-d.ensures at.invariant.3,
    )

pub returns : goal.returns
returns c = let a = c.args in
    let at = c.loop-i in
    let e : at.i ≡ count_at 0 a.log.now = omega arith in
    at.invariant.3 ∙ ap (λ (k : ℕ). over delivery.form (first_ones a.capacity a.log.now a.out.now k) a.out.now) e
