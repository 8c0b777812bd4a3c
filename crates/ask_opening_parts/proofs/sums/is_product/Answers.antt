use Rattle.ask_opening_parts.proofs.Division.{product_none, product_odd, product_even}
use Rattle.ask_opening_parts.proofs.sums.is_product.Goals as goal

pub returns-then-b-eq0 : goal.returns-then-b-eq0
returns-then-b-eq0 c = product_none _ _ _ c.if-b-eq0.true

pub returns-then-n-b-ne0 : goal.returns-then-n-b-ne0
returns-then-n-b-ne0 c = product_odd _ _ _ c.if-n-b-ne0.true

pub returns : goal.returns
returns c = product_even _ _ _ c.if-b-eq0.false c.if-n-b-ne0.false
