-- Recursions on the number of tills, one till more.
use Rattle.std.proofs.Common.{◌≡◌, ℕ, ◌+◌, List, slice_index, ◌≤◌, Bool, true, false, arith, refl, ap, add-one, ◌∙◌, zero, suc, take, length, length-take-le}
use Rattle.std.proofs.lemmas.Grind.{common_steps}
use Rattle.std.specs.Int.{from_bool}
use Rattle.sim_figures.specs.declared.Figures.{Figures}
use Rattle.sim_figures.specs.Notes.{masked, up_note, recipients_of, receives, bit}

pub masked_none : (l : Figures) (masks : List ℕ) → l ≡ masked l masks 0
unfolding masked
masked_none l masks = refl

pub masked_more : (l m n : Figures) (masks : List ℕ) (t : ℕ) → m ≡ masked l masks t → n ≡ up_note m t (slice_index masks t) → n ≡ masked l masks (t + 1)
unfolding masked
masked_more l m n masks t e f = rw add-one (f ∙ ap (λ (x : Figures). up_note x t (slice_index masks t)) e)

masked_front : (l : Figures) (masks : List ℕ) (n k : ℕ) → k ≤ n → masked l (take n masks) k ≡ masked l masks k
unfolding masked
masked_front l masks n zero b = refl
masked_front l masks n (suc k) b = let e = masked_front l masks n k (omega arith) in grind (arith, common_steps, e)

-- as many masks as tills, or all of them
pub masked_by_front : (l : Figures) (masks : List ℕ) (n : ℕ) → n ≤ length masks → masked l (take n masks) (length (take n masks)) ≡ masked l masks n
masked_by_front l masks n b = rw (length-take-le n masks b) (masked_front l masks n n (omega arith))

pub recipients_none : (l : Figures) (from scope : ℕ) → 0 ≡ recipients_of l from scope 0
unfolding recipients_of
recipients_none l from scope = refl

number_is : (r : Bool) → from_bool r ≡ bit r
number_is true = refl
number_is false = refl

number_within : (r : Bool) → bit r ≤ 1
number_within true = omega arith
number_within false = omega arith

-- one till more, and no more recipients than tills
pub recipients_more :
    (l : Figures) (from scope t n b : ℕ) (r : Bool) → n ≡ recipients_of l from scope t → r ≡ receives l from scope t → b ≡ from_bool r → n + b ≡ recipients_of l from scope (t + 1)
unfolding recipients_of
recipients_more l from scope t n b r e f g = rw add-one (whole e f (g ∙ number_is r))
  where
    whole : n ≡ recipients_of l from scope t → r ≡ receives l from scope t → b ≡ bit r → n + b ≡ recipients_of l from scope t + bit (receives l from scope t)
    whole e f g = cc

pub one_at_most : (r : Bool) (b : ℕ) → b ≡ from_bool r → b ≤ 1
one_at_most r b e = let k : b ≡ bit r = e ∙ number_is r in let h : bit r ≤ 1 = number_within r in omega arith
