-- Products and sums of any numbers, tested by division. Assumes nothing.
use mathlib.Core.Path.{◌≡◌, refl, sym, ap, ◌∙◌}
use mathlib.Core.Bool.{Bool, true, false}
use Prim.Native.Nat.{ℕ, ◌+◌, ◌-◌, ◌*◌, ◌/◌, ◌%◌, ◌≤◌, ◌<◌}
use native.Mathlib.Omega.{arith}
use native.Mathlib.Nat.{div-add-mod', add-zero, mul-zero, mul_comm, mul-div_cancel, mul-mod_left, mul-mod_right}
use lib.Dec.{eqb}
use borrow.Author.Tests.{eq-eqb, ne_eqb, eqb-true, eqb-false}

eqb_same : (x y u v : ℕ) → (x ≡ y → u ≡ v) → (u ≡ v → x ≡ y) → eqb x y ≡ eqb u v
eqb_same x y u v f g = go (eqb x y) refl
  where
    go : (b : Bool) → eqb x y ≡ b → b ≡ eqb u v
    go true h = sym (eq-eqb u v (f (eqb-true x y h)))
    go false h = sym (ne_eqb u v (λ e. eqb-false x y h (g e)))

module _ (n a b : ℕ) where
  pub product_none : b ≡ 0 → eqb n 0 ≡ eqb n (a * b)
  product_none h = let e : 0 ≡ a * b = sym (ap (λ (k : ℕ). a * k) h ∙ mul-zero a) in ap (eqb n) e

  pub product_odd : (n % b ≡ 0 → ⊥) → false ≡ eqb n (a * b)
  product_odd h = sym (ne_eqb n (a * b) (λ e. h (ap (λ (k : ℕ). k % b) e ∙ mul-mod_left a b)))

  pub product_even : (b ≡ 0 → ⊥) → n % b ≡ 0 → eqb (n / b) a ≡ eqb n (a * b)
  product_even h k =
      let some : 0 < b = omega (arith, h) in
      eqb_same (n / b) a n (a * b) (λ e. sym (div-add-mod' n b) ∙ (λ j. e j * b + k j) ∙ add-zero (a * b)) (λ e. ap (λ (m : ℕ). m / b) e ∙ mul-div_cancel a some)

module _ (n c k m : ℕ) where
  pub sum_low : n < c → false ≡ eqb n (c + k * m)
  sum_low h = sym (ne_eqb n (c + k * m) (λ e. omega arith))

  pub sum_odd : c ≤ n → ((n - c) % k ≡ 0 → ⊥) → false ≡ eqb n (c + k * m)
  sum_odd h odd = sym (ne_eqb n (c + k * m) (λ e. odd (let r : n - c ≡ k * m = omega arith in ap (λ (j : ℕ). j % k) r ∙ mul-mod_right k m)))

  pub sum_even : (r : Bool) → 0 < k → c ≤ n → (n - c) % k ≡ 0 → r ≡ eqb ((n - c) / k) m → r ≡ eqb n (c + k * m)
  sum_even r some h even e = e ∙ eqb_same ((n - c) / k) m n (c + k * m) there back
    where
      there : (n - c) / k ≡ m → n ≡ c + k * m
      there q = let s : n - c ≡ m * k = sym (div-add-mod' (n - c) k) ∙ (λ j. q j * k + even j) ∙ add-zero (m * k) in omega (arith, mul_comm m k)

      back : n ≡ c + k * m → (n - c) / k ≡ m
      back q = let s : n - c ≡ m * k = omega (arith, mul_comm m k) in ap (λ (j : ℕ). j / k) s ∙ mul-div_cancel m some
