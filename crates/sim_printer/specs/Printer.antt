-- Text gathered in a lent buffer, which is written out whenever it is full.
use Rattle.std.specs.Prelude.{◌≡◌, cond, List, [], ◌∷◌, ℕ, zero, suc, ◌+◌, ◌-◌, ltb, length, set}
use Rattle.io.specs.Digits.{last_digits, IsDigitCount}

-- what the buffer holds, and how many of its bytes count
pub record Page : Type 0 where
  pub held : List ℕ
  pub used : ℕ

abbrev pub page : List ℕ → ℕ → Page
page l n = record { held = l; used = n }

-- one byte more: behind those that count; in a full buffer, which was written out, the first; a buffer of no bytes holds none
unfoldable pub more : Page → ℕ → Page
more p b =
    cond (ltb p.used (length p.held)) (page (set p.held p.used b) (p.used + 1))
    (cond (ltb 0 (length p.held)) (page (set p.held 0 b) 1) (page p.held 0))

-- a text more, byte by byte
unfoldable pub gathered : Page → List ℕ → Page
gathered p [] = p
gathered p (b ∷ bs) = gathered (more p b) bs

-- n spaces
unfoldable pub blanks : ℕ → List ℕ
blanks zero = []
blanks (suc n) = 32 ∷ blanks n

-- p, and then n in the base with the fewest digits, but no fewer than least; spaces in front up to width
pub record Spelled (base least width n : ℕ) (p q : Page) : Type 0 where
  pub places : ℕ
  pub fewest : IsDigitCount base least n places
  pub is : q ≡ gathered (gathered p (blanks (width - places))) (last_digits base places n)

-- p, and then a line of the label and n in decimal
pub record Ended (label : List ℕ) (n : ℕ) (p q : Page) : Type 0 where
  pub before : Page
  pub number : Spelled 10 1 0 n (gathered p label) before
  pub is : q ≡ gathered before (10 ∷ [])
