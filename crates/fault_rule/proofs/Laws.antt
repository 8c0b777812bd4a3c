-- Choices whose tests are known.
use mathlib.Core.Path.{◌≡◌, sym, ap, ◌∙◌}
use mathlib.Core.Bool.{Bool, true, false, cond}

-- a choice whose test is known
pub yes : {A : Type 0} (b : Bool) (r x y : A) → b ≡ true → r ≡ x → r ≡ cond b x y
yes b r x y e h = h ∙ ap (λ (c : Bool). cond c x y) (sym e)

pub no : {A : Type 0} (b : Bool) (r x y : A) → b ≡ false → r ≡ y → r ≡ cond b x y
no b r x y e h = h ∙ ap (λ (c : Bool). cond c x y) (sym e)
