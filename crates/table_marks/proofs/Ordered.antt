-- Ordered ids: each answer is membership, one id more or less, and the ids are kept again. Assumes nothing.
use mathlib.Core.Path.{◌≡◌, refl, sym, ap, ap₂, ◌∙◌, subst}
use mathlib.Core.List.{List, [], ◌∷◌, ◌++◌}
use mathlib.Core.Bool.{Bool, true, false, cond, not, ◌&&◌, ◌||◌, true≢false, false≢true}
use Prim.Native.Nat.{ℕ, zero, suc, ◌+◌, ◌%◌, ◌≤◌, ◌<◌}
use native.Mathlib.Omega.{arith}
use lib.Dec.{ltb, eqb}
use lib.ListN.{length, take, drop, length-append, length-drop, take-append-drop}
use lib.Seq.{length-take-le, take_at, drop_at}
use borrow.Author.Tests.{ltb-true, ltb-false, eqb-true, eqb-false, ne_eqb}
use Rattle.table_rows.specs.Rows.{pick}
use Rattle.table_rows.specs.Lists.{Each, front, behind}
use Rattle.table_rows.proofs.Lists.{each_map, each_drop}
use Rattle.table_marks.specs.Marks.{position, found_in, placed_in, removed_in, merged, refilled, newest, older, old_of, new_of, found, listed, placed, removed, Rises, member, Ordered}
use Rattle.table_marks.proofs.Rising.{place, without, found_member_in, placed_place, removed_without, rises_placed_in, rises_removed_in, length_placed_in, length_removed_in, length_found_in}
use Rattle.table_marks.proofs.Parts.{both_parts, length_merged}
use Rattle.table_marks.proofs.Both.{length_refilled}

-- ---- Facts at each id

module _ (P : ℕ → Type 0) where
  pub each_append : (a b : List ℕ) → Each P a → Each P b → Each P (a ++ b)
  each_append [] b e f = f
  each_append (i ∷ a) b e f = (e.0, each_append a b e.1 f)

  pub each_take : (k : ℕ) (l : List ℕ) → Each P l → Each P (take k l)
  each_take zero l e = tt
  each_take (suc k) [] e = tt
  each_take (suc k) (i ∷ l) e = (e.0, each_take k l e.1)

  each_front : (q : ℕ → Bool) (l : List ℕ) → Each P l → Each P (front q l)
  each_front q [] e = tt
  each_front q (i ∷ l) e = go (q i) (each_front q l e.1)
    where
      go : (b : Bool) → Each P (front q l) → Each P (cond b (i ∷ front q l) [])
      go true h = (e.0, h)
      go false h = tt

  each_behind : (q : ℕ → Bool) (l : List ℕ) → Each P l → Each P (behind q l)
  each_behind q [] e = tt
  each_behind q (i ∷ l) e = go (q i) (each_behind q l e.1)
    where
      go : (b : Bool) → Each P (behind q l) → Each P (cond b (behind q l) (i ∷ l))
      go true h = h
      go false h = e

  each_merged : (a b : List ℕ) → Each P a → Each P b → Each P (merged a b)
  each_merged a [] e f = e
  each_merged a (i ∷ b) e f =
      each_append (front (λ (j : ℕ). ltb j i) a) (i ∷ merged (behind (λ (j : ℕ). ltb j i) a) b) (each_front (λ (j : ℕ). ltb j i) a e)
      (f.0, each_merged (behind (λ (j : ℕ). ltb j i) a) b (each_behind (λ (j : ℕ). ltb j i) a e) f.1)

  each_placed_in : (i : ℕ) (l : List ℕ) → P i → Each P l → Each P (placed_in i l)
  each_placed_in i l h e = each_append (take (position i l) l) (i ∷ drop (position i l) l) (each_take (position i l) l e) (h, each_drop P (position i l) l e)

  each_removed_in : (i : ℕ) (l : List ℕ) → Each P l → Each P (removed_in i l)
  each_removed_in i l e = go (found_in i l)
    where
      go : (b : Bool) → Each P (cond b (take (position i l) l ++ drop (suc (position i l)) l) l)
      go true = each_append (take (position i l) l) (drop (suc (position i l)) l) (each_take (position i l) l e) (each_drop P (suc (position i l)) l e)
      go false = e

  each_member : (i : ℕ) (l : List ℕ) → Each P l → member i l ≡ true → P i
  each_member i [] e m = absurd (false≢true m)
  each_member i (j ∷ l) e m = go (eqb i j) refl m (each_member i l e.1)
    where
      go : (b : Bool) → eqb i j ≡ b → (b || member i l) ≡ true → (member i l ≡ true → P i) → P i
      go true q h k = subst P (sym (eqb-true i j q)) e.0
      go false q h k = k h

  -- on any list
  pub each_placed : (i : ℕ) (l : List ℕ) → P i → Each P l → Each P (placed i l)
  each_placed i l h e = go (eqb (length (placed_in i (new_of l))) newest)
    where
      more : Each P (placed_in i (new_of l))
      more = each_placed_in i (new_of l) h (each_drop P (older (length l)) l e)

      go : (b : Bool) → Each P (cond b (merged (old_of l) (placed_in i (new_of l))) (old_of l ++ placed_in i (new_of l)))
      go true = each_merged (old_of l) (placed_in i (new_of l)) (each_take (older (length l)) l e) more
      go false = each_append (old_of l) (placed_in i (new_of l)) (each_take (older (length l)) l e) more

  each_refilled : (a b : List ℕ) → Each P a → Each P b → Each P (refilled a b)
  each_refilled a [] e f = e
  each_refilled a (i ∷ b) e f = each_append (placed_in i a) b (each_placed_in i a f.0 e) f.1

  pub each_removed : (i : ℕ) (l : List ℕ) → Each P l → Each P (removed i l)
  each_removed i l e = go (found_in i (old_of l))
    where
      go : (b : Bool) → Each P (cond b (refilled (removed_in i (old_of l)) (new_of l)) (old_of l ++ removed_in i (new_of l)))
      go true = each_refilled (removed_in i (old_of l)) (new_of l) (each_removed_in i (old_of l) (each_take (older (length l)) l e)) (each_drop P (older (length l)) l e)
      go false = each_append (old_of l) (removed_in i (new_of l)) (each_take (older (length l)) l e) (each_removed_in i (new_of l) (each_drop P (older (length l)) l e))

-- ---- No ids

pub none_ordered : Ordered []
none_ordered = (tt, tt, tt)

-- ---- Lengths, on any list

length_old : (l : List ℕ) → length (old_of l) ≡ older (length l)
length_old l = length-take-le (older (length l)) l (omega arith)

length_new : (l : List ℕ) → length (new_of l) ≡ length l % newest
length_new l = length-drop (older (length l)) l ∙ omega arith

pub length_placed : (i : ℕ) (l : List ℕ) → length (placed i l) ≡ suc (length l)
length_placed i l = go (eqb (length (placed_in i (new_of l))) newest)
  where
    sum : length (old_of l) + length (placed_in i (new_of l)) ≡ suc (length l)
    sum = omega (arith, length_placed_in i (new_of l), length_old l, length_new l)

    go : (b : Bool) → length (cond b (merged (old_of l) (placed_in i (new_of l))) (old_of l ++ placed_in i (new_of l))) ≡ suc (length l)
    go true = length_merged (old_of l) (placed_in i (new_of l)) ∙ sum
    go false = length-append (old_of l) (placed_in i (new_of l)) ∙ sum

pub length_removed : (i : ℕ) (l : List ℕ) → length (removed i l) ≤ length l
length_removed i l = go (found_in i (old_of l))
  where
    go : (b : Bool) → length (cond b (refilled (removed_in i (old_of l)) (new_of l)) (old_of l ++ removed_in i (new_of l))) ≤ length l
    go true = omega (arith, length_refilled (removed_in i (old_of l)) (new_of l), length_removed_in i (old_of l), length_old l, length_new l)
    go false = omega (arith, length-append (old_of l) (removed_in i (new_of l)), length_removed_in i (new_of l), length_old l, length_new l)

-- ---- Membership

or_false : (b : Bool) → (b || false) ≡ b
or_false true = refl
or_false false = refl

or_none : (a b : Bool) → (a || b) ≡ false → (a ≡ false) × (b ≡ false)
or_none true b e = absurd (true≢false e)
or_none false b e = (refl, e)

pub member_append : (i : ℕ) (a b : List ℕ) → member i (a ++ b) ≡ (member i a || member i b)
member_append i [] b = refl
member_append i (j ∷ a) b = ap (λ (x : Bool). eqb i j || x) (member_append i a b) ∙ assoc (eqb i j) (member i a) (member i b)
  where
    assoc : (x y z : Bool) → (x || (y || z)) ≡ ((x || y) || z)
    assoc true y z = refl
    assoc false y z = refl

member_parts : (i : ℕ) (l : List ℕ) → member i l ≡ (member i (old_of l) || member i (new_of l))
member_parts i l = ap (member i) (sym (take-append-drop (older (length l)) l)) ∙ member_append i (old_of l) (new_of l)

pub member_place : (i j : ℕ) (l : List ℕ) → member i (place j l) ≡ (eqb i j || member i l)
member_place i j [] = refl
member_place i j (x ∷ l) = go (ltb x j) (member_place i j l)
  where
    swap : (a b c : Bool) → (a || (b || c)) ≡ (b || (a || c))
    swap true true c = refl
    swap true false c = refl
    swap false b c = refl

    go : (u : Bool) → member i (place j l) ≡ (eqb i j || member i l) → member i (cond u (x ∷ place j l) (j ∷ x ∷ l)) ≡ (eqb i j || (eqb i x || member i l))
    go true h = ap (λ (z : Bool). eqb i x || z) h ∙ swap (eqb i x) (eqb i j) (member i l)
    go false h = refl

member_placed_in : (i j : ℕ) (l : List ℕ) → Rises l → member i (placed_in j l) ≡ (eqb i j || member i l)
member_placed_in i j l r = ap (member i) (placed_place j l r) ∙ member_place i j l

-- keeping all but j
member_keep : (l : List ℕ) (j i : ℕ) → member i (without j l) ≡ (not (eqb i j) && member i l)
member_keep [] j i = go (eqb i j)
  where
    go : (b : Bool) → false ≡ (not b && false)
    go true = refl
    go false = refl
member_keep (x ∷ xs) j i = go (eqb j x) (eqb i x) (eqb i j) refl refl refl (member_keep xs j i)
  where
    go : (a b c : Bool) → eqb j x ≡ a → eqb i x ≡ b → eqb i j ≡ c → member i (without j xs) ≡ (not (eqb i j) && member i xs)
        → member i (pick (not a) (x ∷ without j xs) (without j xs)) ≡ (not (eqb i j) && (b || member i xs))
    go true b true p q r h = h ∙ rw r
    go true true false p q r h = absurd (eqb-false i j r (eqb-true i x q ∙ sym (eqb-true j x p)))
    go true false false p q r h = h
    go false true true p q r h = absurd (eqb-false j x p (sym (eqb-true i j r) ∙ eqb-true i x q))
    go false false true p q r h = rw (q, h)
    go false b false p q r h = rw (q, h, r)

member_removed_in : (i j : ℕ) (l : List ℕ) → Rises l → member i (removed_in j l) ≡ (not (eqb i j) && member i l)
member_removed_in i j l r = ap (member i) (removed_without j l r) ∙ member_keep l j i

member_merged : (i : ℕ) (a b : List ℕ) → member i (merged a b) ≡ (member i a || member i b)
member_merged i a [] = sym (or_false (member i a))
member_merged i a (j ∷ b) =
    let q : ℕ → Bool = λ (k : ℕ). ltb k j in
    member_append i (front q a) (j ∷ merged (behind q a) b)
    ∙ ap (λ (x : Bool). member i (front q a) || (eqb i j || x)) (member_merged i (behind q a) b)
    ∙ turn (member i (front q a)) (eqb i j) (member i (behind q a)) (member i b)
    ∙ ap (λ (x : Bool). x || (eqb i j || member i b)) (sym (member_append i (front q a) (behind q a)) ∙ ap (member i) (both_parts q a))
  where
    turn : (f e h b : Bool) → (f || (e || (h || b))) ≡ ((f || h) || (e || b))
    turn true e h b = refl
    turn false true true b = refl
    turn false true false b = refl
    turn false false h b = refl

member_refilled : (i : ℕ) (a b : List ℕ) → Rises a → member i (refilled a b) ≡ (member i a || member i b)
member_refilled i a [] r = sym (or_false (member i a))
member_refilled i a (j ∷ b) r =
    member_append i (placed_in j a) b ∙ ap (λ (x : Bool). x || member i b) (member_placed_in i j a r) ∙ turn (eqb i j) (member i a) (member i b)
  where
    turn : (e a b : Bool) → ((e || a) || b) ≡ (a || (e || b))
    turn true true b = refl
    turn true false b = refl
    turn false a b = refl

pub found_member : (i : ℕ) (l : List ℕ) → Ordered l → found i l ≡ member i l
found_member i l k = ap₂ (λ (x y : Bool). x || y) (found_member_in i (old_of l) k.0) (found_member_in i (new_of l) k.1) ∙ sym (member_parts i l)

pub member_placed : (i j : ℕ) (l : List ℕ) → Ordered l → member i (placed j l) ≡ (eqb i j || member i l)
member_placed i j l k = go (eqb (length (placed_in j (new_of l))) newest)
  where
    turn : (o e n : Bool) → (o || (e || n)) ≡ (e || (o || n))
    turn true true n = refl
    turn true false n = refl
    turn false e n = refl

    sum : (member i (old_of l) || member i (placed_in j (new_of l))) ≡ (eqb i j || member i l)
    sum =
        ap (λ (x : Bool). member i (old_of l) || x) (member_placed_in i j (new_of l) k.1) ∙ turn (member i (old_of l)) (eqb i j) (member i (new_of l))
        ∙ ap (λ (x : Bool). eqb i j || x) (sym (member_parts i l))

    go : (b : Bool) → member i (cond b (merged (old_of l) (placed_in j (new_of l))) (old_of l ++ placed_in j (new_of l))) ≡ (eqb i j || member i l)
    go true = member_merged i (old_of l) (placed_in j (new_of l)) ∙ sum
    go false = member_append i (old_of l) (placed_in j (new_of l)) ∙ sum

-- an id among the older ones is none of the newer
apart : (i : ℕ) (l : List ℕ) → Ordered l → member i (old_of l) ≡ true → member i (new_of l) ≡ false
apart i l k h = go (member i (new_of l)) refl
  where
    go : (b : Bool) → member i (new_of l) ≡ b → b ≡ false
    go true m = absurd (true≢false (sym h ∙ each_member (λ (j : ℕ). member j (old_of l) ≡ false) i (new_of l) k.2 m))
    go false m = refl

pub member_removed : (i j : ℕ) (l : List ℕ) → Ordered l → member i (removed j l) ≡ (not (eqb i j) && member i l)
member_removed i j l k = go (found_in j (old_of l)) refl
  where
    cut_old : (e o n : Bool) → (e ≡ true → n ≡ false) → ((not e && o) || n) ≡ (not e && (o || n))
    cut_old true o n h = h refl
    cut_old false o n h = refl

    cut_new : (e o n : Bool) → (e ≡ true → o ≡ false) → (o || (not e && n)) ≡ (not e && (o || n))
    cut_new true o n h = or_false o ∙ h refl
    cut_new false o n h = refl

    -- the parts of l for those of i
    whole : (not (eqb i j) && (member i (old_of l) || member i (new_of l))) ≡ (not (eqb i j) && member i l)
    whole = ap (λ (x : Bool). not (eqb i j) && x) (sym (member_parts i l))

    go : (b : Bool) → found_in j (old_of l) ≡ b → member i (cond b (refilled (removed_in j (old_of l)) (new_of l)) (old_of l ++ removed_in j (new_of l))) ≡ (not (eqb i j) && member i l)
    go true f =
        member_refilled i (removed_in j (old_of l)) (new_of l) (rises_removed_in j (old_of l) k.0)
        ∙ ap (λ (x : Bool). x || member i (new_of l)) (member_removed_in i j (old_of l) k.0)
        ∙ cut_old (eqb i j) (member i (old_of l)) (member i (new_of l)) (λ e. ap (λ (x : ℕ). member x (new_of l)) (eqb-true i j e) ∙ apart j l k (sym (found_member_in j (old_of l) k.0) ∙ f)) ∙ whole
    go false f =
        member_append i (old_of l) (removed_in j (new_of l)) ∙ ap (λ (x : Bool). member i (old_of l) || x) (member_removed_in i j (new_of l) k.1)
        ∙ cut_new (eqb i j) (member i (old_of l)) (member i (new_of l)) (λ e. ap (λ (x : ℕ). member x (old_of l)) (eqb-true i j e) ∙ sym (found_member_in j (old_of l) k.0) ∙ f) ∙ whole

-- ---- The order

rises_take : (k : ℕ) (l : List ℕ) → Rises l → Rises (take k l)
rises_take zero l r = tt
rises_take (suc k) [] r = tt
rises_take (suc k) (i ∷ l) r = (each_take (λ (j : ℕ). i < j) k l r.0, rises_take k l r.1)

rises_drop : (k : ℕ) (l : List ℕ) → Rises l → Rises (drop k l)
rises_drop zero l r = r
rises_drop (suc k) [] r = tt
rises_drop (suc k) (i ∷ l) r = rises_drop k l r.1

rises_front : (q : ℕ → Bool) (l : List ℕ) → Rises l → Rises (front q l)
rises_front q [] r = tt
rises_front q (i ∷ l) r = go (q i) (rises_front q l r.1)
  where
    go : (b : Bool) → Rises (front q l) → Rises (cond b (i ∷ front q l) [])
    go true h = (each_front (λ (j : ℕ). i < j) q l r.0, h)
    go false h = tt

rises_behind : (q : ℕ → Bool) (l : List ℕ) → Rises l → Rises (behind q l)
rises_behind q [] r = tt
rises_behind q (i ∷ l) r = go (q i) (rises_behind q l r.1)
  where
    go : (b : Bool) → Rises (behind q l) → Rises (cond b (behind q l) (i ∷ l))
    go true h = h
    go false h = r

front_below : (y : ℕ) (l : List ℕ) → Each (λ (x : ℕ). x < y) (front (λ (x : ℕ). ltb x y) l)
front_below y [] = tt
front_below y (x ∷ l) = go (ltb x y) refl (front_below y l)
  where
    go : (b : Bool) → ltb x y ≡ b → Each (λ (z : ℕ). z < y) (front (λ (z : ℕ). ltb z y) l) → Each (λ (z : ℕ). z < y) (cond b (x ∷ front (λ (z : ℕ). ltb z y) l) [])
    go true e h = (ltb-true x y e, h)
    go false e h = tt

behind_above : (y : ℕ) (l : List ℕ) → Rises l → member y l ≡ false → Each (λ (x : ℕ). y < x) (behind (λ (x : ℕ). ltb x y) l)
behind_above y [] r m = tt
behind_above y (x ∷ l) r m = go (ltb x y) refl (or_none (eqb y x) (member y l) m) (behind_above y l r.1)
  where
    go : (b : Bool) → ltb x y ≡ b → (eqb y x ≡ false) × (member y l ≡ false) → (member y l ≡ false → Each (λ (z : ℕ). y < z) (behind (λ (z : ℕ). ltb z y) l))
        → Each (λ (z : ℕ). y < z) (cond b (behind (λ (z : ℕ). ltb z y) l) (x ∷ l))
    go true e n h = h n.1
    go false e n h =
        let ne : y ≡ x → ⊥ = eqb-false y x n.0 in
        let lt : y < x = omega (arith, ltb-false x y e, ne) in
        (lt, each_map (λ (z : ℕ). x < z) (λ (z : ℕ). y < z) l (λ z h. omega (arith, lt, h)) r.0)

rises_append : (a : List ℕ) (y : ℕ) (b : List ℕ) → Rises a → Each (λ (x : ℕ). x < y) a → Rises (y ∷ b) → Rises (a ++ (y ∷ b))
rises_append [] y b r e s = s
rises_append (x ∷ a) y b r e s =
    let lt : x < y = e.0 in
    (each_append (λ (z : ℕ). x < z) a (y ∷ b) r.0 (lt, each_map (λ (z : ℕ). y < z) (λ (z : ℕ). x < z) b (λ z h. omega (arith, lt, h)) s.0), rises_append a y b r.1 e.1 s)

behind_none : (q : ℕ → Bool) (l : List ℕ) (i : ℕ) → member i l ≡ false → member i (behind q l) ≡ false
behind_none q l i m = (or_none (member i (front q l)) (member i (behind q l)) (sym (member_append i (front q l) (behind q l)) ∙ ap (member i) (both_parts q l) ∙ m)).1

rises_merged : (a b : List ℕ) → Rises a → Rises b → Each (λ (i : ℕ). member i a ≡ false) b → Rises (merged a b)
rises_merged a [] r s e = r
rises_merged a (y ∷ b) r s e =
    let q : ℕ → Bool = λ (x : ℕ). ltb x y in
    let left : List ℕ = behind q a in
    rises_append (front q a) y (merged (behind q a) b) (rises_front q a r) (front_below y a) (
      each_merged (λ (x : ℕ). y < x) (behind q a) b (behind_above y a r e.0) s.0,
      rises_merged (behind q a) b (rises_behind q a r) s.1 (each_map (λ (i : ℕ). member i a ≡ false) (λ (i : ℕ). member i (behind q a) ≡ false) b (λ i h. behind_none q a i h) e.1),
    )

above_none : (i : ℕ) (l : List ℕ) → Each (λ (j : ℕ). i < j) l → Each (λ (j : ℕ). eqb j i ≡ false) l
above_none i l e = each_map (λ (j : ℕ). i < j) (λ (j : ℕ). eqb j i ≡ false) l (λ j h. ne_eqb j i (λ z. omega (arith, z, h))) e

both : (P Q : ℕ → Type 0) (l : List ℕ) → Each P l → Each Q l → Each (λ (i : ℕ). P i × Q i) l
both P Q [] e f = tt
both P Q (i ∷ l) e f = ((e.0, f.0), both P Q l e.1 f.1)

take_none : (k : ℕ) (l : List ℕ) → Rises l → Each (λ (i : ℕ). member i (take k l) ≡ false) (drop k l)
take_none zero l r = none l
  where
    none : (m : List ℕ) → Each (λ (i : ℕ). false ≡ false) m
    none [] = tt
    none (i ∷ m) = (refl, none m)
take_none (suc k) [] r = tt
take_none (suc k) (x ∷ l) r =
    each_map (λ (i : ℕ). (eqb i x ≡ false) × (member i (take k l) ≡ false)) (λ (i : ℕ). (eqb i x || member i (take k l)) ≡ false) (drop k l)
    (λ i h. ap (λ (b : Bool). b || member i (take k l)) h.0 ∙ h.1)
    (both (λ (i : ℕ). eqb i x ≡ false) (λ (i : ℕ). member i (take k l) ≡ false) (drop k l) (each_drop (λ (i : ℕ). eqb i x ≡ false) k l (above_none x l r.0)) (take_none k l r.1))

-- rising ids are in order
rises_ordered : (l : List ℕ) → Rises l → Ordered l
rises_ordered l r = (rises_take (older (length l)) l r, rises_drop (older (length l)) l r, take_none (older (length l)) l r)

older_plus : (c r : ℕ) → r < newest → older (older c + r) ≡ older c
older_plus c r h = omega arith

-- so are two rising parts with nothing in common, the first as long as the older ids
parts_ordered : (a b : List ℕ) (c : ℕ) → length a ≡ older c → length b < newest → Rises a → Rises b → Each (λ (i : ℕ). member i a ≡ false) b → Ordered (a ++ b)
parts_ordered a b c la lb r s e =
    let n : older (length (a ++ b)) ≡ length a = ap older (length-append a b ∙ ap (λ (k : ℕ). k + length b) la) ∙ older_plus c (length b) lb ∙ sym la in
    let o : old_of (a ++ b) ≡ a = ap (λ (k : ℕ). take k (a ++ b)) n ∙ take_at a b (length a) refl in
    let w : new_of (a ++ b) ≡ b = ap (λ (k : ℕ). drop k (a ++ b)) n ∙ drop_at a b (length a) refl in (
      subst Rises (sym o) r,
      subst Rises (sym w) s,
      subst (λ (x : List ℕ). Each (λ (i : ℕ). member i (old_of (a ++ b)) ≡ false) x) (sym w) (subst (λ (x : List ℕ). Each (λ (i : ℕ). member i x ≡ false) b) (sym o) e),
    )

pub ordered_placed : (j : ℕ) (l : List ℕ) → found j l ≡ false → Ordered l → Ordered (placed j l)
ordered_placed j l f k = go (eqb (length (placed_in j (new_of l))) newest) refl
  where
    none : (found_in j (old_of l) ≡ false) × (found_in j (new_of l) ≡ false)
    none = or_none (found_in j (old_of l)) (found_in j (new_of l)) f

    more : Rises (placed_in j (new_of l))
    more = rises_placed_in j (new_of l) none.1 k.1

    free : Each (λ (i : ℕ). member i (old_of l) ≡ false) (placed_in j (new_of l))
    free = each_placed_in (λ (i : ℕ). member i (old_of l) ≡ false) j (new_of l) (sym (found_member_in j (old_of l) k.0) ∙ none.0) k.2

    go : (b : Bool) → eqb (length (placed_in j (new_of l))) newest ≡ b → Ordered (cond b (merged (old_of l) (placed_in j (new_of l))) (old_of l ++ placed_in j (new_of l)))
    go true e = rises_ordered (merged (old_of l) (placed_in j (new_of l))) (rises_merged (old_of l) (placed_in j (new_of l)) k.0 more free)
    go false e =
        let ne : length (placed_in j (new_of l)) ≡ newest → ⊥ = eqb-false (length (placed_in j (new_of l))) newest e in
        parts_ordered (old_of l) (placed_in j (new_of l)) (length l) (length_old l) (omega (arith, ne, length_placed_in j (new_of l), length_new l)) k.0 more free

ordered_refilled : (c : ℕ) (old new : List ℕ) (j : ℕ) → length old ≡ older c → length new < newest → found_in j old ≡ true → Rises old → Rises new →
    Each (λ (i : ℕ). member i old ≡ false) new → Ordered (refilled (removed_in j old) new)
ordered_refilled c old [] j lo ln f r s e = rises_ordered (removed_in j old) (rises_removed_in j old r)
ordered_refilled c old (y ∷ new) j lo ln f r s e =
    let cut : Rises (removed_in j old) = rises_removed_in j old r in
    let gone : (i : ℕ) → member i old ≡ false → member i (removed_in j old) ≡ false = λ i h. member_removed_in i j old r ∙ ap (λ (x : Bool). not (eqb i j) && x) h ∙ and_false (not (eqb i j)) in
    let fresh : found_in y (removed_in j old) ≡ false = found_member_in y (removed_in j old) cut ∙ gone y e.0 in
    parts_ordered (placed_in y (removed_in j old)) new c (length_placed_in y (removed_in j old) ∙ length_found_in j old f ∙ lo) (omega (arith, ln)) (rises_placed_in y (removed_in j old) fresh cut) s.1
    (each_map (λ (i : ℕ). (eqb i y ≡ false) × (member i old ≡ false)) (λ (i : ℕ). member i (placed_in y (removed_in j old)) ≡ false) new
    (λ i h. member_placed_in i y (removed_in j old) cut ∙ ap₂ (λ (x z : Bool). x || z) h.0 (gone i h.1))
    (both (λ (i : ℕ). eqb i y ≡ false) (λ (i : ℕ). member i old ≡ false) new (above_none y new s.0) e.1))
  where
    and_false : (b : Bool) → (b && false) ≡ false
    and_false true = refl
    and_false false = refl

pub ordered_removed : (j : ℕ) (l : List ℕ) → Ordered l → Ordered (removed j l)
ordered_removed j l k = go (found_in j (old_of l)) refl
  where
    few : length (new_of l) < newest
    few = omega (arith, length_new l)

    go : (b : Bool) → found_in j (old_of l) ≡ b → Ordered (cond b (refilled (removed_in j (old_of l)) (new_of l)) (old_of l ++ removed_in j (new_of l)))
    go true f = ordered_refilled (length l) (old_of l) (new_of l) j (length_old l) few f k.0 k.1 k.2
    go false f =
        parts_ordered (old_of l) (removed_in j (new_of l)) (length l) (length_old l) (omega (arith, few, length_removed_in j (new_of l))) k.0 (rises_removed_in j (new_of l) k.1)
        (each_removed_in (λ (i : ℕ). member i (old_of l) ≡ false) j (new_of l) k.2)

-- the list rises, and has the ids
pub listed_rises : (l : List ℕ) → Ordered l → Rises (listed l)
listed_rises l k = rises_merged (old_of l) (new_of l) k.0 k.1 k.2

pub member_listed : (i : ℕ) (l : List ℕ) → member i (listed l) ≡ member i l
member_listed i l = member_merged i (old_of l) (new_of l) ∙ sym (member_parts i l)

pub length_listed : (l : List ℕ) → length (listed l) ≡ length l
length_listed l = length_merged (old_of l) (new_of l) ∙ omega (arith, length_old l, length_new l)
