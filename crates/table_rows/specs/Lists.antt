-- Of no passage: small functions on the lists that tables hold.
use Rattle.std.specs.Prelude.{List, [], ◌∷◌, Bool, cond, ℕ, zero, suc}

-- one element more in front: does it pass, and how many of the others up to the last that passes
abbrev pub past : Bool → ℕ → ℕ
past b zero = cond b 1 0
past b (suc p) = suc (suc p)

module _ {A : Type 0} where
  -- a fact at each element
  abbrev pub Each : (A → Type 0) → List A → Type 0
  Each P [] = Unit {0}
  Each P (a ∷ l) = P a × Each P l

  -- the longest front part whose elements all pass, and what is left
  abbrev pub front : (A → Bool) → List A → List A
  front q [] = []
  front q (a ∷ l) = cond (q a) (a ∷ front q l) []

  abbrev pub behind : (A → Bool) → List A → List A
  behind q [] = []
  behind q (a ∷ l) = cond (q a) (behind q l) (a ∷ l)

  -- how many elements up to the last that passes
  abbrev pub through_last : (A → Bool) → List A → ℕ
  through_last q [] = 0
  through_last q (a ∷ l) = past (q a) (through_last q l)

  -- f at 0, 1, .. : n of them
  abbrev pub up_to : ℕ → (ℕ → A) → List A
  up_to zero f = []
  up_to (suc n) f = f 0 ∷ up_to n (λ k. f (suc k))
