use Rattle.std.proofs.Common.{ℕ, ◌+◌, ◌*◌, drop, ap, ◌∙◌, arith}
use Rattle.table_log.specs.Log.{records_at}
use Rattle.table_delivery.specs.Delivery as delivery
use Rattle.table_log.proofs.oldest.Goals as goal

pub slot-s-requires : goal.slot-s-requires
slot-s-requires c = let s = c.requires.1 in
    let k = c.requires.2 in
    let n = s.counted in
    let b = s.begun (omega arith) in
    (b, omega arith, omega arith)

pub returns : goal.returns
returns c = let a = c.args in c.get.ensures ∙ ap (λ (j : ℕ). delivery.read (drop (records_at + j * delivery.width) a.log.now)) c.slot-s.ensures.is
