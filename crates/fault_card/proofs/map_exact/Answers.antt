use Rattle.std.proofs.Common.{sym, ◌∙◌, arith}
use Rattle.fault_card.proofs.Laws.{bit_7, beside_5, without_5, not_below}
use Rattle.fault_card.proofs.map_exact.Goals as goal

pub returns-then-stands_in : goal.returns-then-stands_in
returns-then-stands_in c =
    c.if-stands_in.true ∙ beside_5 _ (omega (arith, c.if-map-lt128.true)) (sym c.stands_in.ensures ∙ c.if-stands_in.true)

pub returns-else-stands_in : goal.returns-else-stands_in
returns-else-stands_in c =
    without_5 _ (omega (arith, c.if-map-lt128.true)) (sym c.stands_in.ensures ∙ c.if-stands_in.false) _ c.stands_in-else-stands_in.ensures

pub returns-else-map-lt128 : goal.returns-else-map-lt128
returns-else-map-lt128 c = not_below _ _ c.if-map-lt128.false ∙ bit_7 _ (omega (arith, c.if-map-lt128.false))
