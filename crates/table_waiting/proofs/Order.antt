-- The order: kept by an insertion and by the removal of a front part; on copies in order the due ones are those at the front. Assumes nothing.
use mathlib.Core.Path.{◌≡◌, refl, sym, ap, ◌∙◌}
use mathlib.Core.Bool.{Bool, true, false, cond, not, ◌&&◌, ◌||◌, true≢false, false≢true}
use mathlib.Core.List.{List, [], ◌∷◌}
use Prim.Native.Nat.{ℕ, zero, suc, ◌+◌, ◌-◌, ◌≤◌, ◌<◌}
use native.Mathlib.Omega.{arith}
use lib.Dec.{eqb, ltb}
use lib.ListN.{length, drop, length-drop}
use borrow.Author.Tests.{ltb-true, ltb-false, leb-false, eqb-true, lt-ltb, lt-leb, eq-eqb}
use Rattle.table_rows.specs.Rows.{keep, pick}
use Rattle.table_rows.specs.Lists.{Each, front, behind}
use Rattle.table_rows.specs.Table.{over}
use Rattle.table_rows.proofs.Lists.{each_map}
use Rattle.table_rows.proofs.Rows.{length_rows}
use Rattle.table_rows.proofs.Table.{rows_over}
use Rattle.table_waiting.specs.declared.Copy.{Copy}
use Rattle.table_waiting.specs.Waiting.{width, read, form, copies, before, ordered, passes, insert_copy, on_time, Sorted}
use Rattle.table_waiting.specs.Waiting.{exact}

-- the order as facts on numbers
pub data Earlier (a b : Copy) : Type 0 where
  in_time : a.delivery.time < b.delivery.time → Earlier a b
  in_sequence : a.delivery.time ≡ b.delivery.time → a.sequence < b.sequence → Earlier a b

pub before_earlier : (a b : Copy) → before a b ≡ true → Earlier a b
unfolding before
before_earlier a b h = go (ltb a.delivery.time b.delivery.time) (eqb a.delivery.time b.delivery.time) (ltb a.sequence b.sequence) refl refl refl h
  where
    go : (x y z : Bool) → ltb a.delivery.time b.delivery.time ≡ x → eqb a.delivery.time b.delivery.time ≡ y → ltb a.sequence b.sequence ≡ z → (x || (y && z)) ≡ true → Earlier a b
    go true y z p q r e = in_time (ltb-true _ _ p)
    go false true true p q r e = in_sequence (eqb-true _ _ q) (ltb-true _ _ r)
    go false true false p q r e = absurd (false≢true e)
    go false false z p q r e = absurd (false≢true e)

pub earlier_before : (a b : Copy) → Earlier a b → before a b ≡ true
unfolding before
earlier_before a b (in_time h) = rw (lt-ltb a.delivery.time b.delivery.time h)
earlier_before a b (in_sequence e h) = rw (eq-eqb a.delivery.time b.delivery.time e, lt-ltb a.sequence b.sequence h) (or_true (ltb a.delivery.time b.delivery.time))
  where
    or_true : (x : Bool) → (x || true) ≡ true
    or_true true = refl
    or_true false = refl

-- what is not before: later, or as early with a sequence that is not below
not_earlier : (a b : Copy) → before a b ≡ false → (Earlier a b → ⊥)
not_earlier a b h e = true≢false (sym (earlier_before a b e) ∙ h)

none_before : (a b : Copy) → (Earlier a b → ⊥) → before a b ≡ false
none_before a b n = go (before a b) refl
  where
    go : (x : Bool) → before a b ≡ x → x ≡ false
    go true e = absurd (n (before_earlier a b e))
    go false e = refl

earlier_trans : (a b c : Copy) → Earlier a b → Earlier b c → Earlier a c
earlier_trans a b c (in_time h) (in_time k) = in_time (omega arith)
earlier_trans a b c (in_time h) (in_sequence e k) = in_time (omega arith)
earlier_trans a b c (in_sequence e h) (in_time k) = in_time (omega arith)
earlier_trans a b c (in_sequence e h) (in_sequence f k) = in_sequence (omega arith) (omega arith)

never_self : (c : Copy) → Earlier c c → ⊥
never_self c (in_time h) = omega arith
never_self c (in_sequence e h) = omega arith

-- c before a, b not before a: c is before b
earlier_through : (a b c : Copy) → Earlier c a → (Earlier b a → ⊥) → Earlier c b
earlier_through a b c (in_time h) n = go (ltb c.delivery.time b.delivery.time) refl
  where
    go : (x : Bool) → ltb c.delivery.time b.delivery.time ≡ x → Earlier c b
    go true e = in_time (ltb-true _ _ e)
    go false e = absurd (n (in_time (let q = ltb-false c.delivery.time b.delivery.time e in omega arith)))
earlier_through a b c (in_sequence e h) n = go (ltb c.delivery.time b.delivery.time) refl (ltb b.delivery.time c.delivery.time) refl (ltb c.sequence b.sequence) refl
  where
    go : (x : Bool) → ltb c.delivery.time b.delivery.time ≡ x → (y : Bool) → ltb b.delivery.time c.delivery.time ≡ y → (z : Bool) → ltb c.sequence b.sequence ≡ z → Earlier c b
    go true p y q z r = in_time (ltb-true _ _ p)
    go false p true q z r = absurd (n (in_time (let k = ltb-true b.delivery.time c.delivery.time q in omega arith)))
    go false p false q true r = in_sequence (let j = ltb-false c.delivery.time b.delivery.time p in let k = ltb-false b.delivery.time c.delivery.time q in omega arith) (ltb-true _ _ r)
    go false p false q false r =
        let j = ltb-false c.delivery.time b.delivery.time p in
        let k = ltb-false b.delivery.time c.delivery.time q in
        let i = ltb-false c.sequence b.sequence r in
        absurd (n (in_sequence (omega arith) (omega arith)))

-- c before y, x not before c: x is not before y .. as tests
after_first : (x y c : Copy) → before y x ≡ false → before c y ≡ false → before c x ≡ false
after_first x y c h k = none_before c x (λ e. not_earlier c y k (earlier_through x y c e (not_earlier y x h)))

-- AN INSERTION
pub each_insert : (P : Copy → Type 0) (c : Copy) (w : List Copy) → P c → Each P w → Each P (insert_copy c w)
each_insert P c [] h e = (h, tt)
each_insert P c (x ∷ w) h e = go (passes c (x ∷ w)) (each_insert P c w h e.1)
  where
    go : (b : Bool) → Each P (insert_copy c w) → Each P (cond b (x ∷ insert_copy c w) (c ∷ x ∷ w))
    go true r = (e.0, r)
    go false r = (h, e)

-- where c passes some copy of a list in order, it is not before the first
passes_first : (c x : Copy) (w : List Copy) → Each (λ (y : Copy). before y x ≡ false) w → passes c (x ∷ w) ≡ true → before c x ≡ false
passes_first c x w e h = go (before c x) refl h
  where
    later_one : (v : List Copy) → Each (λ (y : Copy). before y x ≡ false) v → passes c v ≡ true → before c x ≡ false
    later_one [] e h = absurd (false≢true h)
    later_one (y ∷ v) e h = turn (before c y) refl h (λ k. later_one v e.1 k)
      where
        turn : (b : Bool) → before c y ≡ b → (not b || passes c v) ≡ true → (passes c v ≡ true → before c x ≡ false) → before c x ≡ false
        turn true p k f = f k
        turn false p k f = after_first x y c e.0 p

    go : (b : Bool) → before c x ≡ b → (not b || passes c w) ≡ true → before c x ≡ false
    go true p k = later_one w e k
    go false p k = p

-- where c passes none, none is before it
passes_none : (c : Copy) (w : List Copy) → passes c w ≡ false → Each (λ (y : Copy). before y c ≡ false) w
passes_none c [] h = tt
passes_none c (y ∷ w) h = go (before c y) refl h (λ k. passes_none c w k)
  where
    go : (b : Bool) → before c y ≡ b → (not b || passes c w) ≡ false → (passes c w ≡ false → Each (λ (x : Copy). before x c ≡ false) w) → (before y c ≡ false) ×
        Each (λ (x : Copy). before x c ≡ false) w
    go true p k f = (none_before y c (λ e. never_self c (earlier_trans c y c (before_earlier c y p) e)), f k)
    go false p k f = absurd (true≢false k)

pub sorted_insert : (c : Copy) (w : List Copy) → Sorted w → Sorted (insert_copy c w)
sorted_insert c [] h = (tt, tt)
sorted_insert c (x ∷ w) h = go (passes c (x ∷ w)) refl (sorted_insert c w h.1)
  where
    go : (b : Bool) → passes c (x ∷ w) ≡ b → Sorted (insert_copy c w) → Sorted (cond b (x ∷ insert_copy c w) (c ∷ x ∷ w))
    go true e r = (each_insert (λ (y : Copy). before y x ≡ false) c w (passes_first c x w h.0 e) h.0, r)
    go false e r = (passes_none c (x ∷ w) e, h)

pub length_insert : (c : Copy) (w : List Copy) → length (insert_copy c w) ≡ suc (length w)
length_insert c [] = refl
length_insert c (x ∷ w) = go (passes c (x ∷ w)) (length_insert c w)
  where
    go : (b : Bool) → length (insert_copy c w) ≡ suc (length w) → length (cond b (x ∷ insert_copy c w) (c ∷ x ∷ w)) ≡ suc (suc (length w))
    go true h = ap suc h
    go false h = refl

-- each copy stands there once more, c, or as often as before: by any test
pub kept_insert : (q : Copy → Bool) (c : Copy) (w : List Copy) → length (keep q (insert_copy c w)) ≡ cond (q c) 1 0 + length (keep q w)
kept_insert q c [] = one (q c)
  where
    one : (b : Bool) → length (pick b (c ∷ []) []) ≡ cond b 1 0 + 0
    one true = refl
    one false = refl
kept_insert q c (x ∷ w) = go (passes c (x ∷ w)) (kept_insert q c w)
  where
    both : (a b : Bool) (n m : ℕ) → n ≡ cond a 1 0 + m → cond b (suc n) n ≡ cond a 1 0 + cond b (suc m) m
    both true true n m e = omega arith
    both true false n m e = e
    both false true n m e = omega arith
    both false false n m e = e

    size : (b : Bool) (y : Copy) (l : List Copy) → length (pick b (y ∷ l) l) ≡ cond b (suc (length l)) (length l)
    size true y l = refl
    size false y l = refl

    front_one : (b : Bool) (n : ℕ) → cond b (suc n) n ≡ cond b 1 0 + n
    front_one true n = omega arith
    front_one false n = omega arith

    go : (b : Bool) → length (keep q (insert_copy c w)) ≡ cond (q c) 1 0 + length (keep q w)
        → length (keep q (cond b (x ∷ insert_copy c w) (c ∷ x ∷ w))) ≡ cond (q c) 1 0 + length (pick (q x) (x ∷ keep q w) (keep q w))
    go true h =
        size (q x) x (keep q (insert_copy c w)) ∙ both (q c) (q x) (length (keep q (insert_copy c w))) (length (keep q w)) h
        ∙ ap (λ (n : ℕ). cond (q c) 1 0 + n) (sym (size (q x) x (keep q w)))
    go false h = size (q c) c (keep q (x ∷ w)) ∙ front_one (q c) (length (keep q (x ∷ w)))

-- on copies in order the insertion is the plain one
pub insert_ordered : (c : Copy) (w : List Copy) → Sorted w → insert_copy c w ≡ ordered c w
insert_ordered c [] h = refl
insert_ordered c (x ∷ w) h = go (before c x) refl (passes c w) refl (insert_ordered c w h.1)
  where
    go : (b : Bool) → before c x ≡ b → (s : Bool) → passes c w ≡ s → insert_copy c w ≡ ordered c w
        → cond (not b || s) (x ∷ insert_copy c w) (c ∷ x ∷ w) ≡ cond b (c ∷ x ∷ w) (x ∷ ordered c w)
    go true p true q r = absurd (true≢false (sym p ∙ passes_first c x w h.0 (ap (λ (t : Bool). not t || passes c w) p ∙ q)))
    go true p false q r = refl
    go false p s q r = ap (λ (l : List Copy). x ∷ l) r

-- A FRONT PART that goes
pub sorted_drop : (k : ℕ) (w : List Copy) → Sorted w → Sorted (drop k w)
sorted_drop zero w h = h
sorted_drop (suc k) [] h = tt
sorted_drop (suc k) (x ∷ w) h = sorted_drop k w h.1

-- THE DUE: in copies in order those at the front are all of them, and those behind are all the others
late : (until : ℕ) (c x : Copy) → on_time until c ≡ false → before x c ≡ false → on_time until x ≡ false
late until c x h e = lt-leb x.delivery.time until (go (ltb x.delivery.time c.delivery.time) refl)
  where
    go : (b : Bool) → ltb x.delivery.time c.delivery.time ≡ b → until < x.delivery.time
    go true p = absurd (not_earlier x c e (in_time (ltb-true _ _ p)))
    go false p = let k = ltb-false x.delivery.time c.delivery.time p in let j = leb-false c.delivery.time until h in omega arith

keep_none : (q : Copy → Bool) (w : List Copy) → Each (λ (x : Copy). q x ≡ false) w → keep q w ≡ []
keep_none q [] h = refl
keep_none q (x ∷ w) h = ap (λ (b : Bool). pick b (x ∷ keep q w) (keep q w)) h.0 ∙ keep_none q w h.1

keep_all : (q : Copy → Bool) (w : List Copy) → Each (λ (x : Copy). q x ≡ true) w → keep q w ≡ w
keep_all q [] h = refl
keep_all q (x ∷ w) h = ap (λ (b : Bool). pick b (x ∷ keep q w) (keep q w)) h.0 ∙ ap (λ (l : List Copy). x ∷ l) (keep_all q w h.1)

module _ (until : ℕ) where
  pub front_all : (w : List Copy) → Sorted w → front (on_time until) w ≡ keep (on_time until) w
  front_all [] h = refl
  front_all (x ∷ w) h = go (on_time until x) refl (front_all w h.1)
    where
      go : (b : Bool) → on_time until x ≡ b → front (on_time until) w ≡ keep (on_time until) w → cond b (x ∷ front (on_time until) w) [] ≡ pick b (x ∷ keep (on_time until) w) (keep (on_time until) w)
      go true e r = ap (λ (l : List Copy). x ∷ l) r
      go false e r = sym (keep_none (on_time until) w (each_map (λ (y : Copy). before y x ≡ false) (λ (y : Copy). on_time until y ≡ false) w (λ y k. late until x y e k) h.0))

  pub behind_all : (w : List Copy) → Sorted w → behind (on_time until) w ≡ keep (λ (c : Copy). not (on_time until c)) w
  behind_all [] h = refl
  behind_all (x ∷ w) h = go (on_time until x) refl (behind_all w h.1)
    where
      late_one : Copy → Bool
      late_one c = not (on_time until c)

      go : (b : Bool) → on_time until x ≡ b → behind (on_time until) w ≡ keep late_one w → cond b (behind (on_time until) w) (x ∷ w) ≡ pick (not b) (x ∷ keep late_one w) (keep late_one w)
      go true e r = r
      go false e r = ap (λ (l : List Copy). x ∷ l)
          (sym (keep_all late_one w (each_map (λ (y : Copy). before y x ≡ false) (λ (y : Copy). late_one y ≡ true) w (λ y k. ap not (late until x y e k)) h.0)))

-- THE TABLE after `insert` and after `drop_front`: what it holds, and that it is in order again
module _ (ws : List ℕ) (n : ℕ) where
  pub copies_inserted : (c : Copy) → copies (over form (insert_copy c (copies ws n)) ws) (n + 1) ≡ insert_copy c (copies ws n)
  copies_inserted c =
      let l : length (insert_copy c (copies ws n)) ≡ n + 1 = length_insert c (copies ws n) ∙ (let e = length_rows width read n ws in let z : suc (length (copies ws n)) ≡ n + 1 = omega arith in z) in
      ap (copies (over form (insert_copy c (copies ws n)) ws)) (sym l) ∙ rows_over form exact (insert_copy c (copies ws n)) ws

  pub copies_dropped : (k : ℕ) → k ≤ n → copies (over form (drop k (copies ws n)) ws) (n - k) ≡ drop k (copies ws n)
  copies_dropped k h =
      let l : length (drop k (copies ws n)) ≡ n - k = length-drop k (copies ws n) ∙ ap (λ (j : ℕ). j - k) (length_rows width read n ws) in
      ap (copies (over form (drop k (copies ws n)) ws)) (sym l) ∙ rows_over form exact (drop k (copies ws n)) ws

  pub inserted_sorted : (c : Copy) → Sorted (copies ws n) → Sorted (copies (over form (insert_copy c (copies ws n)) ws) (n + 1))
  inserted_sorted c h = rw (copies_inserted c) (sorted_insert c (copies ws n) h)

  pub dropped_sorted : (k : ℕ) → k ≤ n → Sorted (copies ws n) → Sorted (copies (over form (drop k (copies ws n)) ws) (n - k))
  dropped_sorted k h s = rw (copies_dropped k h) (sorted_drop k (copies ws n) s)
