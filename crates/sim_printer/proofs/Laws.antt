-- One byte more, by the three cases; a text byte by byte; spaces one by one.
use mathlib.Core.Path.{◌≡◌, refl, ap, sym, ◌∙◌}
use mathlib.Core.List.{List}
use Prim.Native.Nat.{ℕ, zero, suc, ◌+◌, ◌-◌, ◌≤◌, ◌<◌}
use native.Mathlib.Numerals.{add-one}
use native.Mathlib.Omega.{arith}
use lib.ListN.{length, set, drop, get_or, drop_of_length-le}
use lib.Seq.{drop-cons}
use borrow.Author.Tests.{lt-ltb, le-ltb}
use Rattle.io.specs.Digits.{last_digits, IsDigitCount}
use Rattle.sim_printer.specs.Printer.{Page, page, more, gathered, blanks, Spelled}

pub behind : (l : List ℕ) (u b : ℕ) → u < length l → page (set l u b) (u + 1) ≡ more (page l u) b
unfolding more
behind l u b h = simp (lt-ltb u (length l) h)

pub first : (l : List ℕ) (u b : ℕ) → length l ≤ u → 0 < length l → page (set l 0 b) 1 ≡ more (page l u) b
unfolding more
first l u b f h = simp (le-ltb u (length l) f, lt-ltb 0 (length l) h)

pub nowhere : (l : List ℕ) (u b : ℕ) → length l ≤ u → length l ≤ 0 → page l 0 ≡ more (page l u) b
unfolding more
nowhere l u b f h = simp (le-ltb u (length l) f, le-ltb 0 (length l) h)

-- the text from i on is its byte at i and the text from i + 1 on
pub next : (p q s : Page) (t : List ℕ) (i : ℕ) → i < length t → gathered p (drop i t) ≡ s → q ≡ more p (get_or t i 0) → gathered q (drop (i + 1) t) ≡ s
unfolding gathered
next p q s t i h e m = rw (add-one) (ap (λ (x : Page). gathered x (drop (suc i) t)) m ∙ (ap (λ (l : List ℕ). gathered p l) (sym (drop-cons t i 0 h)) ∙ e))

pub ended : (p s : Page) (t : List ℕ) (i : ℕ) → length t ≤ i → gathered p (drop i t) ≡ s → p ≡ s
unfolding gathered
ended p s t i h e = sym (ap (λ (l : List ℕ). gathered p l) (drop_of_length-le t h)) ∙ e

one_space : (p q s : Page) (n : ℕ) → gathered p (blanks (suc n)) ≡ s → q ≡ more p 32 → gathered q (blanks n) ≡ s
unfolding gathered blanks
one_space p q s n e m = ap (λ (x : Page). gathered x (blanks n)) m ∙ e

-- one of the n spaces, behind the first i of them
pub space : (p q s : Page) (n i : ℕ) → i < n → gathered p (blanks (n - i)) ≡ s → q ≡ more p 32 → gathered q (blanks (n - (i + 1))) ≡ s
space p q s n i h e m =
    let k : n - i ≡ suc (n - (i + 1)) = omega arith in
    one_space p q s (n - (i + 1)) (ap (λ (j : ℕ). gathered p (blanks j)) (sym k) ∙ e) m

pub no_space : (p s : Page) (n : ℕ) → n ≤ 0 → gathered p (blanks n) ≡ s → p ≡ s
unfolding gathered blanks
no_space p s zero h e = e
no_space p s (suc n) h e = absurd (omega arith)

pub spelled : (b least w n k m : ℕ) (p q s : Page) (t : List ℕ) → IsDigitCount b least n k → m ≡ w - k → q ≡ gathered p (blanks m) → t ≡ last_digits b k n → s ≡ gathered q t → Spelled b least w n p s
spelled b least w n k m p q s t f e padded d whole = record { places = k; fewest = f; is = rw (← e, ← d, ← padded) whole }

nothing : (p : Page) → p ≡ gathered p (blanks 0)
unfolding gathered blanks
nothing p = refl

pub spelled_plain : (b least n k : ℕ) (p s : Page) (t : List ℕ) → IsDigitCount b least n k → t ≡ last_digits b k n → s ≡ gathered p t → Spelled b least 0 n p s
spelled_plain b least n k p s t f d whole = spelled b least 0 n k 0 p p s t f (omega arith) (nothing p) d whole
