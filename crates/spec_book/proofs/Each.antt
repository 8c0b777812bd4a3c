-- A fact at each element of a list.
use Prim.Native.Nat.{ℕ, zero, suc, ◌<◌}
use native.Mathlib.Omega.{arith}
use mathlib.Core.Path.{◌≡◌, refl}
use mathlib.Core.Bool.{Bool, true, false, cond, ◌&&◌, false≢true}
use mathlib.Core.List.{List, [], ◌∷◌, ◌++◌}
use lib.ListN.{length, get_or, set, replicate, drop}
use lib.Dec.{ltb}
use Rattle.table_rows.specs.Rows.{all_of, pick, keep}
use Rattle.table_rows.specs.Lists.{Each, front, behind, up_to}
use Rattle.table_ring.specs.Ring.{push}
use Rattle.spec_network.specs.Lists.{every}

module _ {A : Type 0} (P : A → Type 0) where
  pub each_set : (l : List A) (t : ℕ) (x : A) → Each P l → P x → Each P (set l t x)
  each_set [] t x e h = tt
  each_set (a ∷ l) zero x e h = (h, e.1)
  each_set (a ∷ l) (suc t) x e h = (e.0, each_set l t x e.1 h)

  pub each_at : (l : List A) (t : ℕ) (d : A) → Each P l → P d → P (get_or l t d)
  each_at [] t d e h = h
  each_at (a ∷ l) zero d e h = e.0
  each_at (a ∷ l) (suc t) d e h = each_at l t d e.1 h

  pub each_replicate : (n : ℕ) (a : A) → P a → Each P (replicate n a)
  each_replicate zero a h = tt
  each_replicate (suc n) a h = (h, each_replicate n a h)

  pub each_append : (l k : List A) → Each P l → Each P k → Each P (l ++ k)
  each_append [] k e f = f
  each_append (a ∷ l) k e f = (e.0, each_append l k e.1 f)

  each_drop1 : (l : List A) → Each P l → Each P (drop 1 l)
  each_drop1 [] e = tt
  each_drop1 (a ∷ l) e = e.1

  pub each_push : (n : ℕ) (l : List A) (x : A) → Each P l → P x → Each P (push n l x)
  each_push n l x e h = go (ltb (length l) n) (each_append l (x ∷ []) e (h, tt))
    where
      go : (b : Bool) → Each P (l ++ (x ∷ [])) → Each P (cond b (l ++ (x ∷ [])) (drop 1 (l ++ (x ∷ []))))
      go true r = r
      go false r = each_drop1 (l ++ (x ∷ [])) r

  pub each_keep : (q : A → Bool) (l : List A) → Each P l → Each P (keep q l)
  each_keep q [] e = tt
  each_keep q (a ∷ l) e = go (q a) (each_keep q l e.1)
    where
      go : (b : Bool) → Each P (keep q l) → Each P (pick b (a ∷ keep q l) (keep q l))
      go true r = (e.0, r)
      go false r = r

  pub each_front : (q : A → Bool) (l : List A) → Each P l → Each P (front q l)
  each_front q [] e = tt
  each_front q (a ∷ l) e = go (q a) (each_front q l e.1)
    where
      go : (b : Bool) → Each P (front q l) → Each P (cond b (a ∷ front q l) [])
      go true r = (e.0, r)
      go false r = tt

  pub each_behind : (q : A → Bool) (l : List A) → Each P l → Each P (behind q l)
  each_behind q [] e = tt
  each_behind q (a ∷ l) e = go (q a) (each_behind q l e.1)
    where
      go : (b : Bool) → Each P (behind q l) → Each P (cond b (behind q l) (a ∷ l))
      go true r = r
      go false r = e

  pub each_up_to : (n : ℕ) (f : ℕ → A) → ((j : ℕ) → j < n → P (f j)) → Each P (up_to n f)
  each_up_to zero f h = tt
  each_up_to (suc n) f h = (h 0 (omega arith), each_up_to n (λ k. f (suc k)) (λ j l. h (suc j) (omega arith)))

  pub up_to_each : (n : ℕ) (f : ℕ → A) (k : ℕ) → k < n → Each P (up_to n f) → P (f k)
  up_to_each zero f k h e = absurd (omega arith)
  up_to_each (suc n) f zero h e = e.0
  up_to_each (suc n) f (suc k) h e = up_to_each n (λ j. f (suc j)) k (omega arith) e.1

module _ {A : Type 0} where
  pub each_all : (p : A → Bool) (l : List A) → Each (λ (a : A). p a ≡ true) l → all_of p l ≡ true
  each_all p [] e = refl
  each_all p (a ∷ l) e = rw e.0 (each_all p l e.1)

  pub all_each : (p : A → Bool) (l : List A) → all_of p l ≡ true → Each (λ (a : A). p a ≡ true) l
  all_each p [] h = tt
  all_each p (t ∷ l) h = go (p t) refl h (λ k. all_each p l k)
    where
      go : (b : Bool) → p t ≡ b → (b && all_of p l) ≡ true → (all_of p l ≡ true → Each (λ (a : A). p a ≡ true) l) → (p t ≡ true) × Each (λ (a : A). p a ≡ true) l
      go true e k f = (e, f k)
      go false e k f = absurd (false≢true k)

-- ---- Tests

pub both : (a b : Bool) → (a && b) ≡ true → (a ≡ true) × (b ≡ true)
both true true h = (refl, refl)
both true false h = absurd (false≢true h)
both false b h = absurd (false≢true h)

pub join : (a b : Bool) → a ≡ true → b ≡ true → (a && b) ≡ true
join a b p q = rw (p, q)

abbrev pub True : Bool → Type 0
True b = b ≡ true

pub each_every : (l : List Bool) → Each True l → every l ≡ true
each_every [] e = refl
each_every (b ∷ l) e = rw e.0 (each_every l e.1)

pub every_each : (l : List Bool) → every l ≡ true → Each True l
every_each [] h = tt
every_each (b ∷ l) h = let x = both b (every l) h in (x.0, every_each l x.1)
