-- Laws of two parts in a row, and of what is taken and dropped of them.
use Prim.Native.Nat.{ℕ, zero, suc, ◌+◌, ◌-◌, ◌≤◌}
use mathlib.Core.Path.{◌≡◌, refl, ap, sym, ◌∙◌}
use mathlib.Core.List.{List, [], ◌∷◌, ◌++◌}
use native.Mathlib.Omega.{arith}
use lib.ListN.{length, take, drop, length-drop}
use lib.Seq.{take_all}

pub take_past : (n : ℕ) (s : List ℕ) → length s ≤ n → s ≡ take n s
take_past n s h = sym (take_all n s h)

pub take_none : (n : ℕ) → ◌≡◌ {A = List ℕ} (take n []) []
take_none zero = refl
take_none (suc n) = refl

pub drop_both : (n : ℕ) (h t : List ℕ) → drop n (h ++ t) ≡ drop n h ++ drop (n - length h) t
drop_both zero [] t = refl
drop_both (suc n) [] t = let e : suc n ≡ suc n - 0 = omega arith in ap (λ k. drop k t) e
drop_both zero (x ∷ h) t = let e : 0 ≡ 0 - length (x ∷ h) = omega arith in ap (λ k. x ∷ (h ++ drop k t)) e
drop_both (suc n) (x ∷ h) t = let e : n - length h ≡ suc n - length (x ∷ h) = omega arith in drop_both n h t ∙ ap (λ k. drop n h ++ drop k t) e

pub take_both : (n : ℕ) (h t : List ℕ) → take n (h ++ t) ≡ take n h ++ take (n - length h) t
take_both zero [] t = refl
take_both (suc n) [] t = let e : suc n ≡ suc n - 0 = omega arith in ap (λ k. take k t) e
take_both zero (x ∷ h) t = let e : 0 ≡ 0 - length (x ∷ h) = omega arith in ap (λ k. take k t) e
take_both (suc n) (x ∷ h) t = let e : n - length h ≡ suc n - length (x ∷ h) = omega arith in ap (λ l. x ∷ l) (take_both n h t ∙ ap (λ k. take n h ++ take k t) e)

pub empty_left : (h t : List ℕ) → length h ≡ 0 → t ≡ h ++ t
empty_left [] t e = refl
empty_left (x ∷ h) t e = absurd (omega arith)

-- what follows the first N of two parts
pub right_length : (N m : ℕ) (h t : List ℕ) {f g : List ℕ} → m ≡ N - length h → f ≡ drop N h → g ≡ drop m t → length f + length g ≡ length h + length t - N
right_length N m h t {f} {g} p q r =
    let a : length f ≡ length h - N = ap length q ∙ length-drop N h in
    let b : length g ≡ length t - m = ap length r ∙ length-drop m t in
    omega arith
