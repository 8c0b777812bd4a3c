use Rattle.fault_card.proofs.Laws.{bad_map, other_length, high_tier, exactly}
use mathlib.Core.Path.{sym, ◌∙◌}
use Rattle.fault_card.proofs.read.Goals as goal

pub returns-then-not-map_exact : goal.returns-then-not-map_exact
returns-then-not-map_exact c = bad_map _ _ c.byte-map.ensures.0 (sym c.map_exact.ensures ∙ c.if-not-map_exact.true)

pub returns-then-s-at : goal.returns-then-s-at
returns-then-s-at c = other_length _ _ c.byte-map.ensures.0 (sym c.map_exact.ensures ∙ c.if-not-map_exact.false) _
    c.lay_out-at.ensures.0 c.if-s-at.true

pub returns-then-spec-gt3 : goal.returns-then-spec-gt3
returns-then-spec-gt3 c = high_tier _ _ c.byte-map.ensures.0 (sym c.map_exact.ensures ∙ c.if-not-map_exact.false) _ c.lay_out-at.ensures.0
    c.if-s-at.false _ c.fields-spec.ensures c.if-spec-gt3.true

pub returns : goal.returns
returns c = exactly _ _ c.byte-map.ensures.0 (sym c.map_exact.ensures ∙ c.if-not-map_exact.false) _ c.lay_out-at.ensures.0
    c.if-s-at.false _ c.fields-spec.ensures c.if-spec-gt3.false
