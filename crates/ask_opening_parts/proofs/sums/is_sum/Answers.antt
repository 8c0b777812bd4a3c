use Rattle.ask_opening_parts.proofs.Division.{sum_low, sum_odd, sum_even}
use Rattle.ask_opening_parts.proofs.sums.is_sum.Goals as goal

pub returns-then-n-c : goal.returns-then-n-c
returns-then-n-c c = sum_low _ _ _ _ c.if-n-c.true

pub returns-then-rest-k-ne0 : goal.returns-then-rest-k-ne0
returns-then-rest-k-ne0 c = sum_odd _ _ _ _ c.if-n-c.false c.if-rest-k-ne0.true

pub returns : goal.returns
returns c = sum_even _ _ _ _ _ c.requires c.if-n-c.false c.if-rest-k-ne0.false c.is_product.ensures
