-- Tables stored one behind the other.
use mathlib.Core.Path.{◌≡◌, refl, sym, ap, ◌∙◌}
use Prim.Native.Nat.{ℕ, zero, suc, ◌+◌}
use native.Mathlib.Omega.{arith}
use mathlib.Core.List.{List, [], ◌∷◌, ◌++◌, append_assoc}
use lib.ListN.{length, take, drop, length-append}
use borrow.Rule.Slice.PartMut.{put_mid}
use Rattle.call_keeping.specs.Copied.{stored_at, five}

take_exact : (a b : List ℕ) → take (length a) (a ++ b) ≡ a
take_exact [] b = refl
take_exact (x ∷ a) b = ap (λ (l : List ℕ). x ∷ l) (take_exact a b)

pub drop_exact : (a b : List ℕ) → drop (length a) (a ++ b) ≡ b
drop_exact [] b = refl
drop_exact (x ∷ a) b = drop_exact a b

drop-drop : (a b : ℕ) (m : List ℕ) → drop b (drop a m) ≡ drop (a + b) m
drop-drop zero b m = let e : b ≡ 0 + b = omega arith in ap (λ (k : ℕ). drop k m) e
drop-drop (suc a) b [] = drop_none b ∙ sym (drop_none (suc a + b))
  where
    drop_none : (k : ℕ) → ◌≡◌ {A = List ℕ} (drop k []) []
    drop_none zero = refl
    drop_none (suc k) = refl
drop-drop (suc a) b (x ∷ m) = drop-drop a b m ∙ (let e : suc (a + b) ≡ suc a + b = omega arith in ap (λ (k : ℕ). drop k (x ∷ m)) e)

-- a table into a part of a memory
pub part_stored : (m t v : List ℕ) (at k : ℕ) → v ≡ t → k ≡ length t → put_mid at k m v ≡ stored_at m at t
unfolding stored_at
part_stored m t v at k e f = ap (λ (y : List ℕ). take at m ++ (y ++ drop k (drop at m))) e ∙ ap (λ (n : ℕ). take at m ++ (t ++ drop n (drop at m))) f

-- one table more
stored_more : (p x m : List ℕ) (at : ℕ) → at ≡ length p → stored_at (p ++ drop (length p) m) at x ≡ (p ++ x) ++ drop (length (p ++ x)) m
unfolding stored_at
stored_more p x m at e =
    ap (λ (n : ℕ). take n (p ++ drop (length p) m) ++ (x ++ drop (length x) (drop n (p ++ drop (length p) m)))) e
    ∙ ap (λ (l : List ℕ). l ++ (x ++ drop (length x) (drop (length p) (p ++ drop (length p) m)))) (take_exact p (drop (length p) m))
    ∙ ap (λ (l : List ℕ). p ++ (x ++ drop (length x) l)) (drop_exact p (drop (length p) m))
    ∙ ap (λ (l : List ℕ). p ++ (x ++ l)) (drop-drop (length p) (length x) m ∙ ap (λ (n : ℕ). drop n m) (sym (length-append p x)))
    ∙ sym (append_assoc p x (drop (length (p ++ x)) m))

pub kept_five : (net tills words seen waiting m₀ m₁ m₂ m₃ m₄ m₅ : List ℕ)
    → m₁ ≡ stored_at m₀ 0 net → m₂ ≡ stored_at m₁ (length net) tills → m₃ ≡ stored_at m₂ (length net + length tills) words → m₄ ≡ stored_at m₃ (length net + length tills + length words) seen
    → m₅ ≡ stored_at m₄ (length net + length tills + length words + length seen) waiting
    → m₅ ≡ five net tills words seen waiting ++ drop (length (five net tills words seen waiting)) m₀
unfolding five
kept_five net tills words seen waiting m₀ m₁ m₂ m₃ m₄ m₅ a b c d e =
    let p₁ : m₁ ≡ net ++ drop (length net) m₀ = a ∙ stored_more [] net m₀ 0 refl in
    let p₂ = b ∙ ap (λ (m : List ℕ). stored_at m (length net) tills) p₁ ∙ stored_more net tills m₀ _ refl in
    let q₂ : length net + length tills ≡ length (net ++ tills) = sym (length-append net tills) in
    let p₃ = c ∙ ap (λ (m : List ℕ). stored_at m (length net + length tills) words) p₂ ∙ stored_more (net ++ tills) words m₀ _ q₂ in
    let q₃ : length net + length tills + length words ≡ length ((net ++ tills) ++ words) = ap (λ (n : ℕ). n + length words) q₂ ∙ sym (length-append (net ++ tills) words) in
    let p₄ = d ∙ ap (λ (m : List ℕ). stored_at m (length net + length tills + length words) seen) p₃ ∙ stored_more ((net ++ tills) ++ words) seen m₀ _ q₃ in
    let q₄ : length net + length tills + length words + length seen ≡ length (((net ++ tills) ++ words) ++ seen) = ap (λ (n : ℕ). n + length seen) q₃ ∙
    sym (length-append ((net ++ tills) ++ words) seen) in
    e ∙ ap (λ (m : List ℕ). stored_at m (length net + length tills + length words + length seen) waiting) p₄ ∙ stored_more (((net ++ tills) ++ words) ++ seen) waiting m₀ _ q₄
