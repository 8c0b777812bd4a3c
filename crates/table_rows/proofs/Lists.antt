-- Laws of front parts, and of lists by their places. Assumes nothing.
use mathlib.Core.Path.{◌≡◌, refl, ap, ◌∙◌}
use mathlib.Core.List.{List, [], ◌∷◌}
use mathlib.Core.Bool.{Bool, true, false, cond}
use Prim.Native.Nat.{ℕ, zero, suc, ◌<◌}
use native.Mathlib.Omega.{arith}
use lib.ListN.{length, get_or, set, take, drop}
use Rattle.table_rows.specs.Lists.{Each, front, behind, up_to}

module _ {A : Type 0} where
  pub each_map : (P Q : A → Type 0) (l : List A) → ((a : A) → P a → Q a) → Each P l → Each Q l
  each_map P Q [] f h = tt
  each_map P Q (a ∷ l) f h = (f a h.0, each_map P Q l f h.1)

  pub each_drop : (P : A → Type 0) (k : ℕ) (l : List A) → Each P l → Each P (drop k l)
  each_drop P zero l h = h
  each_drop P (suc k) [] h = tt
  each_drop P (suc k) (a ∷ l) h = each_drop P k l h.1

  -- the front part is as many first elements, and what is left the others
  pub take_front : (q : A → Bool) (l : List A) → take (length (front q l)) l ≡ front q l
  take_front q [] = refl
  take_front q (a ∷ l) = go (q a) (take_front q l)
    where
      go : (b : Bool) → take (length (front q l)) l ≡ front q l → take (length (cond b (a ∷ front q l) [])) (a ∷ l) ≡ cond b (a ∷ front q l) []
      go true h = ap (λ (t : List A). a ∷ t) h
      go false h = refl

  pub drop_front : (q : A → Bool) (l : List A) → drop (length (front q l)) l ≡ behind q l
  drop_front q [] = refl
  drop_front q (a ∷ l) = go (q a) (drop_front q l)
    where
      go : (b : Bool) → drop (length (front q l)) l ≡ behind q l → drop (length (cond b (a ∷ front q l) [])) (a ∷ l) ≡ cond b (behind q l) (a ∷ l)
      go true h = h
      go false h = refl

  pub length_up_to : (n : ℕ) (f : ℕ → A) → length (up_to n f) ≡ n
  length_up_to zero f = refl
  length_up_to (suc n) f = ap suc (length_up_to n (λ k. f (suc k)))

  pub get_d_up_to : (n : ℕ) (f : ℕ → A) (k : ℕ) (d : A) → k < n → get_or (up_to n f) k d ≡ f k
  get_d_up_to zero f k d h = absurd (omega arith)
  get_d_up_to (suc n) f zero d h = refl
  get_d_up_to (suc n) f (suc k) d h = get_d_up_to n (λ j. f (suc j)) k d (omega arith)

  pub up_to_same : (n : ℕ) (f g : ℕ → A) → ((k : ℕ) → k < n → g k ≡ f k) → up_to n g ≡ up_to n f
  up_to_same zero f g h = refl
  up_to_same (suc n) f g h = ap (λ (a : A). a ∷ up_to n (λ k. g (suc k))) (h 0 (omega arith)) ∙
      ap (λ (l : List A). f 0 ∷ l) (up_to_same n (λ k. f (suc k)) (λ k. g (suc k)) (λ k q. h (suc k) (omega arith)))

  -- one place anew
  pub up_to_set : (n : ℕ) (f g : ℕ → A) (r : ℕ) → r < n → ((k : ℕ) → k < n → (k ≡ r → ⊥) → g k ≡ f k) → up_to n g ≡ set (up_to n f) r (g r)
  up_to_set zero f g r q h = absurd (omega arith)
  up_to_set (suc n) f g zero q h = ap (λ (l : List A). g 0 ∷ l) (up_to_same n (λ k. f (suc k)) (λ k. g (suc k)) (λ k w. h (suc k) (omega arith) (λ e. omega arith)))
  up_to_set (suc n) f g (suc r) q h =
      ap (λ (a : A). a ∷ up_to n (λ k. g (suc k))) (h 0 (omega arith) (λ e. omega arith))
      ∙ ap (λ (l : List A). f 0 ∷ l) (up_to_set n (λ k. f (suc k)) (λ k. g (suc k)) r (omega arith) (λ k w ne. h (suc k) (omega arith) (λ e. ne (omega arith))))
