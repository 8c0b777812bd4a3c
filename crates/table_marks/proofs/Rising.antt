-- On rising ids the halving finds membership, the ordered place, and what is left; the ids rise again after each. Assumes nothing.
use mathlib.Core.Path.{◌≡◌, refl, sym, ap, ◌∙◌, subst}
use mathlib.Core.List.{List, [], ◌∷◌, ◌++◌}
use mathlib.Core.Bool.{Bool, true, false, cond, not, ◌&&◌, ◌||◌, true≢false}
use Prim.Native.Nat.{ℕ, zero, suc, ◌+◌, ◌/◌, ◌≤◌, ◌<◌}
use native.Mathlib.Nat.{le_refl}
use native.Mathlib.Omega.{arith}
use lib.Dec.{ltb, eqb}
use lib.ListN.{length, get_or, take, drop, length-append, length-take, length-drop}
use borrow.Author.Tests.{ltb-true, ltb-false, lt-ltb, le-ltb, eqb-true, eqb-false, eq-eqb, ne_eqb}
use Rattle.table_rows.specs.Rows.{keep, pick}
use Rattle.table_rows.specs.Lists.{Each}
use Rattle.table_rows.proofs.Lists.{each_map}
use Rattle.table_marks.specs.Marks.{halve, position, found_in, placed_in, removed_in, Rises, member}

-- how many ids at the front are below i
abbrev rank : ℕ → List ℕ → ℕ
rank i [] = 0
rank i (j ∷ l) = cond (ltb j i) (suc (rank i l)) 0

-- an id among rising ids
abbrev pub place : ℕ → List ℕ → List ℕ
place i [] = i ∷ []
place i (j ∷ l) = cond (ltb j i) (j ∷ place i l) (i ∷ j ∷ l)

-- the ids but i
abbrev pub without : ℕ → List ℕ → List ℕ
without i l = keep (λ (k : ℕ). not (eqb i k)) l

rank_length : (i : ℕ) (l : List ℕ) → rank i l ≤ length l
rank_length i [] = le_refl _
rank_length i (j ∷ l) = go (ltb j i) (rank_length i l)
  where
    go : (b : Bool) → rank i l ≤ length l → cond b (suc (rank i l)) 0 ≤ suc (length l)
    go true h = omega arith
    go false h = omega arith

above_all : (i : ℕ) (l : List ℕ) (n d : ℕ) → Each (λ k. i < k) l → n < length l → i < get_or l n d
above_all i [] n d e h = absurd (omega arith)
above_all i (k ∷ l) zero d e h = e.0
above_all i (k ∷ l) (suc n) d e h = above_all i l n d e.1 (omega arith)

-- an id at a place is below i exactly where the place is below the rank
rank_test : (i : ℕ) (l : List ℕ) (n : ℕ) → Rises l → n < length l → ltb (get_or l n 0) i ≡ ltb n (rank i l)
rank_test i [] n r h = absurd (omega arith)
rank_test i (j ∷ l) zero r h = go (ltb j i) refl
  where
    go : (b : Bool) → ltb j i ≡ b → b ≡ ltb 0 (cond b (suc (rank i l)) 0)
    go true e = sym (lt-ltb 0 (suc (rank i l)) (omega arith))
    go false e = sym (le-ltb 0 0 (omega arith))
rank_test i (j ∷ l) (suc n) r h = go (ltb j i) refl (rank_test i l n r.1 (omega arith))
  where
    go : (b : Bool) → ltb j i ≡ b → ltb (get_or l n 0) i ≡ ltb n (rank i l) → ltb (get_or l n 0) i ≡ ltb (suc n) (cond b (suc (rank i l)) 0)
    go true e k = k ∙ step (ltb n (rank i l)) refl
      where
        step : (x : Bool) → ltb n (rank i l) ≡ x → x ≡ ltb (suc n) (suc (rank i l))
        step true q = sym (lt-ltb (suc n) (suc (rank i l)) (omega (arith, ltb-true n (rank i l) q)))
        step false q = sym (le-ltb (suc n) (suc (rank i l)) (omega (arith, ltb-false n (rank i l) q)))
    go false e k = le-ltb (get_or l n 0) i (omega (arith, ltb-false j i e, above_all j l n 0 r.0 (omega arith))) ∙ sym (le-ltb (suc n) 0 (omega arith))

-- the halving keeps the rank between lo and lo + n
halve_rank : (t : ℕ) (l : List ℕ) (i lo n : ℕ) → Rises l → lo ≤ rank i l → rank i l ≤ lo + n → lo + n ≤ length l → n ≤ t → halve t l i lo n ≡ rank i l
unfolding halve
halve_rank zero l i lo n r a b c k = omega arith
halve_rank (suc t) l i lo zero r a b c k = omega arith
halve_rank (suc t) l i lo (suc m) r a b c k =
    go (ltb (get_or l (lo + m / 2) 0) i) (sym (rank_test i l (lo + m / 2) r (omega arith)))
    (λ x. halve_rank t l i (lo + m / 2 + 1) (suc m / 2) r x (omega arith) (omega arith) (omega arith))
    (λ x. halve_rank t l i lo (suc m / 2) r a x (omega arith) (omega arith))
  where
    go : (y : Bool) → ltb (lo + m / 2) (rank i l) ≡ y
        → (lo + m / 2 + 1 ≤ rank i l → halve t l i (lo + m / 2 + 1) (suc m / 2) ≡ rank i l)
        → (rank i l ≤ lo + suc m / 2 → halve t l i lo (suc m / 2) ≡ rank i l)
        → halve t l i (cond y (lo + m / 2 + 1) lo) (suc m / 2) ≡ rank i l
    go true q f g = let h = ltb-true (lo + m / 2) (rank i l) q in f (omega arith)
    go false q f g = let h = ltb-false (lo + m / 2) (rank i l) q in g (omega arith)

position_rank : (i : ℕ) (l : List ℕ) → Rises l → position i l ≡ rank i l
unfolding position
position_rank i l r = halve_rank (length l) l i 0 (length l) r (omega arith) (let h = rank_length i l in omega arith) (omega arith) (le_refl _)

none_below : (i j : ℕ) (l : List ℕ) → i ≤ j → Each (λ k. j < k) l → member i l ≡ false
none_below i j [] h e = refl
none_below i j (k ∷ l) h e = rw (ne_eqb i k (λ z. omega (arith, z, h, e.0))) (none_below i j l h e.1)

keep_all : (i j : ℕ) (l : List ℕ) → i ≤ j → Each (λ k. j < k) l → without i l ≡ l
keep_all i j [] h e = refl
keep_all i j (k ∷ l) h e = rw (ne_eqb i k (λ z. omega (arith, z, h, e.0))) (ap (λ (m : List ℕ). k ∷ m) (keep_all i j l h e.1))

abbrev found_at : ℕ → ℕ → List ℕ → Bool
found_at p i l = ltb p (length l) && eqb (get_or l p 0) i

ltb_suc : (m n : ℕ) → ltb (suc m) (suc n) ≡ ltb m n
ltb_suc m n = go (ltb m n) refl
  where
    go : (b : Bool) → ltb m n ≡ b → ltb (suc m) (suc n) ≡ b
    go true e = lt-ltb (suc m) (suc n) (omega (arith, ltb-true m n e))
    go false e = le-ltb (suc m) (suc n) (omega (arith, ltb-false m n e))

rank_found : (i : ℕ) (l : List ℕ) → Rises l → found_at (rank i l) i l ≡ member i l
rank_found i [] r = refl
rank_found i (j ∷ l) r = go (ltb j i) refl (rank_found i l r.1)
  where
    go : (b : Bool) → ltb j i ≡ b → found_at (rank i l) i l ≡ member i l → found_at (cond b (suc (rank i l)) 0) i (j ∷ l) ≡ (eqb i j || member i l)
    go true e h = ap (λ (x : Bool). x && eqb (get_or l (rank i l) 0) i) (ltb_suc (rank i l) (length l)) ∙ h ∙ rw (ne_eqb i j (λ z. omega (arith, z, ltb-true j i e)))
    go false e h = rw (lt-ltb 0 (suc (length l)) (omega arith)) (same (eqb i j) refl)
      where
        same : (x : Bool) → eqb i j ≡ x → eqb j i ≡ (x || member i l)
        same true q = eq-eqb j i (sym (eqb-true i j q))
        same false q = ne_eqb j i (λ z. eqb-false i j q (sym z)) ∙ sym (none_below i j l (omega (arith, ltb-false j i e)) r.0)

rank_place : (i : ℕ) (l : List ℕ) → take (rank i l) l ++ (i ∷ drop (rank i l) l) ≡ place i l
rank_place i [] = refl
rank_place i (j ∷ l) = go (ltb j i) (rank_place i l)
  where
    go : (b : Bool) → take (rank i l) l ++ (i ∷ drop (rank i l) l) ≡ place i l
        → take (cond b (suc (rank i l)) 0) (j ∷ l) ++ (i ∷ drop (cond b (suc (rank i l)) 0) (j ∷ l)) ≡ cond b (j ∷ place i l) (i ∷ j ∷ l)
    go true h = ap (λ (m : List ℕ). j ∷ m) h
    go false h = refl

abbrev cut : ℕ → List ℕ → List ℕ
cut p l = take p l ++ drop (suc p) l

rank_removed : (i : ℕ) (l : List ℕ) → Rises l → cond (member i l) (cut (rank i l) l) l ≡ without i l
rank_removed i [] r = refl
rank_removed i (j ∷ l) r = go (ltb j i) refl (rank_removed i l r.1)
  where
    go : (b : Bool) → ltb j i ≡ b → cond (member i l) (cut (rank i l) l) l ≡ without i l
        → cond (eqb i j || member i l) (cut (cond b (suc (rank i l)) 0) (j ∷ l)) (j ∷ l) ≡ pick (not (eqb i j)) (j ∷ without i l) (without i l)
    go true e h = rw (ne_eqb i j (λ z. omega (arith, z, ltb-true j i e))) (both (member i l) ∙ ap (λ (m : List ℕ). j ∷ m) h)
      where
        both : (x : Bool) → cond x (j ∷ cut (rank i l) l) (j ∷ l) ≡ j ∷ cond x (cut (rank i l) l) l
        both true = refl
        both false = refl
    go false e h = first (eqb i j) refl
      where
        first : (x : Bool) → eqb i j ≡ x → cond (x || member i l) l (j ∷ l) ≡ pick (not x) (j ∷ without i l) (without i l)
        first true q = sym (keep_all i j l (omega (arith, eqb-true i j q)) r.0)
        first false q = rw (none_below i j l (omega (arith, ltb-false j i e)) r.0) (ap (λ (m : List ℕ). j ∷ m) (sym (keep_all i j l (omega (arith, ltb-false j i e)) r.0)))

-- THE LAWS of the answers
pub found_member_in : (i : ℕ) (l : List ℕ) → Rises l → found_in i l ≡ member i l
found_member_in i l r = ap (λ (p : ℕ). found_at p i l) (position_rank i l r) ∙ rank_found i l r

pub placed_place : (i : ℕ) (l : List ℕ) → Rises l → placed_in i l ≡ place i l
placed_place i l r = ap (λ (p : ℕ). take p l ++ (i ∷ drop p l)) (position_rank i l r) ∙ rank_place i l

pub removed_without : (i : ℕ) (l : List ℕ) → Rises l → removed_in i l ≡ without i l
removed_without i l r = (λ j. cond (found_member_in i l r j) (cut (position_rank i l r j) l) l) ∙ rank_removed i l r

-- THE ORDER is kept
pub each_place : (P : ℕ → Type 0) (i : ℕ) (l : List ℕ) → P i → Each P l → Each P (place i l)
each_place P i [] h e = (h, tt)
each_place P i (j ∷ l) h e = go (ltb j i) (each_place P i l h e.1)
  where
    go : (b : Bool) → Each P (place i l) → Each P (cond b (j ∷ place i l) (i ∷ j ∷ l))
    go true r = (e.0, r)
    go false r = (h, e)

rises_place : (i : ℕ) (l : List ℕ) → member i l ≡ false → Rises l → Rises (place i l)
rises_place i [] f r = (tt, tt)
rises_place i (j ∷ l) f r = go (ltb j i) refl (eqb i j) refl f (λ k. rises_place i l k r.1)
  where
    go : (b : Bool) → ltb j i ≡ b → (x : Bool) → eqb i j ≡ x → (x || member i l) ≡ false → (member i l ≡ false → Rises (place i l)) → Rises (cond b (j ∷ place i l) (i ∷ j ∷ l))
    go b p true q k g = absurd (true≢false k)
    go true p false q k g = (each_place (λ n. j < n) i l (ltb-true j i p) r.0, g k)
    go false p false q k g =
        let ne : i ≡ j → ⊥ = eqb-false i j q in
        let lt : i < j = omega (arith, ltb-false j i p, ne) in
        ((lt, each_map (λ (n : ℕ). j < n) (λ (n : ℕ). i < n) l (λ n h. omega (arith, lt, h)) r.0), r)

pub rises_placed_in : (i : ℕ) (l : List ℕ) → found_in i l ≡ false → Rises l → Rises (placed_in i l)
rises_placed_in i l f r = subst Rises (sym (placed_place i l r)) (rises_place i l (sym (found_member_in i l r) ∙ f) r)

pub each_keep : (P : ℕ → Type 0) (q : ℕ → Bool) (l : List ℕ) → Each P l → Each P (keep q l)
each_keep P q [] e = tt
each_keep P q (j ∷ l) e = go (q j) (each_keep P q l e.1)
  where
    go : (b : Bool) → Each P (keep q l) → Each P (pick b (j ∷ keep q l) (keep q l))
    go true r = (e.0, r)
    go false r = r

pub rises_keep : (q : ℕ → Bool) (l : List ℕ) → Rises l → Rises (keep q l)
rises_keep q [] r = tt
rises_keep q (i ∷ l) r = go (q i) (rises_keep q l r.1)
  where
    go : (b : Bool) → Rises (keep q l) → Rises (pick b (i ∷ keep q l) (keep q l))
    go true k = (each_keep (λ j. i < j) q l r.0, k)
    go false k = k

pub rises_removed_in : (i : ℕ) (l : List ℕ) → Rises l → Rises (removed_in i l)
rises_removed_in i l r = subst Rises (sym (removed_without i l r)) (rises_keep (λ (j : ℕ). not (eqb i j)) l r)

-- LENGTHS, on any list
pub length_placed_in : (i : ℕ) (l : List ℕ) → length (placed_in i l) ≡ suc (length l)
length_placed_in i l = length-append (take (position i l) l) (i ∷ drop (position i l) l) ∙ omega (arith, length-take (position i l) l, length-drop (position i l) l)

pub length_removed_in : (i : ℕ) (l : List ℕ) → length (removed_in i l) ≤ length l
length_removed_in i l = go (found_in i l) (position i l)
  where
    go : (b : Bool) (p : ℕ) → length (cond b (cut p l) l) ≤ length l
    go true p = omega (arith, length-append (take p l) (drop (suc p) l), length-take p l, length-drop (suc p) l)
    go false p = le_refl _

-- an id that is found goes
pub length_found_in : (i : ℕ) (l : List ℕ) → found_in i l ≡ true → suc (length (removed_in i l)) ≡ length l
length_found_in i l e =
    let p : ℕ = position i l in
    let h = ltb-true (position i l) (length l) (left (ltb (position i l) (length l)) (eqb (get_or l (position i l) 0) i) e) in
    ap (λ (b : Bool). suc (length (cond b (cut (position i l) l) l))) e
    ∙ omega (arith, h, length-append (take (position i l) l) (drop (suc (position i l)) l), length-take (position i l) l, length-drop (suc (position i l)) l)
  where
    left : (x y : Bool) → (x && y) ≡ true → x ≡ true
    left true y q = refl
    left false y q = absurd (true≢false (sym q))
