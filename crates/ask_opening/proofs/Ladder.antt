-- Tests in two parts, and what a list of tests that passed says of each. Assumes nothing.
use mathlib.Core.Path.{◌≡◌, refl, sym, ap, ◌∙◌}
use mathlib.Core.Bool.{Bool, true, false, ◌&&◌}
use mathlib.Core.List.{List, [], ◌∷◌, ◌++◌}
use Rattle.table_rows.specs.Lists.{Each}
use Rattle.ask_tables.proofs.Ladder.{both}
use Rattle.spec_network.specs.Lists.{every}

pub every_append : (xs ys : List Bool) → every (xs ++ ys) ≡ (every xs && every ys)
every_append [] ys = refl
every_append (x ∷ xs) ys = go x (every_append xs ys)
  where
    go : (b : Bool) → every (xs ++ ys) ≡ (every xs && every ys) → (b && every (xs ++ ys)) ≡ ((b && every xs) && every ys)
    go true h = h
    go false h = refl

-- tests in two parts
module _ (xs ys : List Bool) where
  pub first_fails : every xs ≡ false → every (xs ++ ys) ≡ false
  first_fails h = every_append xs ys ∙ ap (λ (b : Bool). b && every ys) h

  pub second_fails : every xs ≡ true → every ys ≡ false → every (xs ++ ys) ≡ false
  second_fails h k = every_append xs ys ∙ ap (λ (b : Bool). b && every ys) h ∙ k

  pub both_pass : every xs ≡ true → every ys ≡ true → every (xs ++ ys) ≡ true
  both_pass h k = every_append xs ys ∙ ap (λ (b : Bool). b && every ys) h ∙ k

-- what passed tests say
pub all_pass : (bs : List Bool) → every bs ≡ true → Each (λ b. b ≡ true) bs
all_pass [] h = tt
all_pass (b ∷ bs) h = let p = both b (every bs) h in (p.0, all_pass bs p.1)

pub passed_parts : (xs ys : List Bool) → every (xs ++ ys) ≡ true → (every xs ≡ true) × (every ys ≡ true)
passed_parts xs ys h = both (every xs) (every ys) (sym (every_append xs ys) ∙ h)
