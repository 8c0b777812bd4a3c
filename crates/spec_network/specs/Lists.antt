-- Of no passage: small functions on lists, tests and bits.
use Rattle.std.specs.Prelude.{ℕ, ◌+◌, ◌/◌, ◌%◌, ◌^◌, Bool, true, false, not, ◌&&◌, ◌||◌, List, [], ◌∷◌, eqb, ltb}
use Rattle.table_rows.specs.Lists.{up_to}

abbrev pub bit : Bool → ℕ
bit true = 1
bit false = 0

module _ {A : Type 0} where
  -- how many elements pass the test
  abbrev pub count : (A → Bool) → List A → ℕ
  count p [] = 0
  count p (x ∷ xs) = bit (p x) + count p xs

  abbrev pub some_of : (A → Bool) → List A → Bool
  some_of p [] = false
  some_of p (x ∷ xs) = p x || some_of p xs

abbrev pub every : List Bool → Bool
every [] = true
every (b ∷ bs) = b && every bs

-- 0, .., n - 1
abbrev pub below : ℕ → List ℕ
below n = up_to n (λ i. i)

abbrev pub same : List ℕ → List ℕ → Bool
same [] [] = true
same [] (y ∷ ys) = false
same (x ∷ xs) [] = false
same (x ∷ xs) (y ∷ ys) = eqb x y && same xs ys

-- no two alike
abbrev pub unlike : List (List ℕ) → Bool
unlike [] = true
unlike (x ∷ xs) = not (some_of (same x) xs) && unlike xs

-- bit k of a mask
abbrev pub bit_at : ℕ → ℕ → Bool
bit_at mask k = eqb (mask / 2 ^ k % 2) 1

-- no bit at or above n
abbrev pub within : ℕ → ℕ → Bool
within mask n = ltb mask (2 ^ n)

-- tallies wrap at 2^64
abbrev pub wrap : ℕ → ℕ
wrap n = n % 2 ^ 64
