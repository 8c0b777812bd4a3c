-- The search by halving, turn by turn, on any ids; and what the other functions make of its answer. Assumes nothing.
use mathlib.Core.Path.{◌≡◌, refl, sym, ap, ◌∙◌}
use mathlib.Core.List.{List, [], ◌∷◌, ◌++◌}
use mathlib.Core.Bool.{Bool, true, false, cond, ◌&&◌}
use Prim.Native.Nat.{ℕ, zero, suc, ◌+◌, ◌-◌, ◌/◌, ◌≤◌, ◌<◌}
use native.Mathlib.Omega.{arith}
use lib.Dec.{ltb, eqb}
use lib.ListN.{length, get_or, take, drop, set, length-take, length-drop, length-append}
use lib.Seq.{get_or-take, get_or-drop, length-take-le}
use borrow.Author.Tests.{lt-ltb, le-ltb, eq-eqb, ne_eqb, eqb-true, eqb-false}
use Rattle.table_shift.specs.Shift.{put_words, opened, closed}
use Rattle.table_shift.proofs.Laws.{opened_set}
use Rattle.table_shift.proofs.Parts.{part_inserted, part_closed, is_put}
use Rattle.table_marks.specs.declared.Span.{Span}
use Rattle.table_marks.specs.Marks.{ids_of, halve, halved, leads_to, position, found_in, placed_at, removed_in}

one : (t : ℕ) (ids : List ℕ) (id lo n : ℕ) → 0 < n
    → halve (suc t) ids id lo n ≡ halve t ids id (cond (ltb (get_or ids (lo + (n - 1) / 2) 0) id) (lo + (n - 1) / 2 + 1) lo) (n / 2)
unfolding halve
one t ids id lo zero h = absurd (omega arith)
one t ids id lo (suc m) h =
    let e : suc m - 1 ≡ m = omega arith in
    sym (ap (λ (k : ℕ). halve t ids id (cond (ltb (get_or ids (lo + k / 2) 0) id) (lo + k / 2 + 1) lo) (suc m / 2)) e)

done : (t : ℕ) (ids : List ℕ) (id lo : ℕ) → halve t ids id lo 0 ≡ lo
unfolding halve
done zero ids id lo = refl
done (suc t) ids id lo = refl

at_zero : (ids : List ℕ) (id lo n : ℕ) → halve zero ids id lo n ≡ lo
unfolding halve
at_zero ids id lo n = refl

-- where nothing is left, any number of halvings gives lo
over : (t : ℕ) (ids : List ℕ) (id lo n : ℕ) → n ≡ 0 → halve t ids id lo n ≡ lo
over t ids id lo n z = ap (halve t ids id lo) z ∙ done t ids id lo

-- more halvings than are needed change nothing
enough : (t u : ℕ) (ids : List ℕ) (id lo n : ℕ) → n ≤ t → n ≤ u → halve t ids id lo n ≡ halve u ids id lo n
enough zero u ids id lo n h k = over zero ids id lo n (omega arith) ∙ sym (over u ids id lo n (omega arith))
enough (suc t) zero ids id lo n h k = over (suc t) ids id lo n (omega arith) ∙ sym (over zero ids id lo n (omega arith))
enough (suc t) (suc u) ids id lo n h k = go (eqb n 0) refl (λ l q. enough t u ids id l (n / 2) (omega arith) (omega arith))
  where
    go : (b : Bool) → eqb n 0 ≡ b → ((l : ℕ) → 0 < n → halve t ids id l (n / 2) ≡ halve u ids id l (n / 2)) → halve (suc t) ids id lo n ≡ halve (suc u) ids id lo n
    go true e f = let z = eqb-true n 0 e in over (suc t) ids id lo n z ∙ sym (over (suc u) ids id lo n z)
    go false e f =
        let z = eqb-false n 0 e in
        let some : 0 < n = omega (arith, z) in
        one t ids id lo n some ∙ f (cond (ltb (get_or ids (lo + (n - 1) / 2) 0) id) (lo + (n - 1) / 2 + 1) lo) some ∙ sym (one u ids id lo n some)

-- a span narrows: it stays in the one before
pub narrows : (b : Bool) (lo n : ℕ) → 0 < n → cond b (lo + (n - 1) / 2 + 1) lo + n / 2 ≤ lo + n
narrows true lo n h = omega arith
narrows false lo n h = omega arith

-- the ways out of `halve_once`
module _ (ids : List ℕ) (id : ℕ) (s : Span) where
  pub once_none : s.n ≡ 0 → s ≡ halved ids id s
  unfolding halved
  once_none h = sym (rw (eq-eqb s.n 0 h))

  pub once_some : (mid lo a : ℕ) → (s.n ≡ 0 → ⊥) → mid ≡ s.lo + (s.n - 1) / 2 → a ≡ get_or ids mid 0 → lo ≡ cond (ltb a id) (mid + 1) s.lo → record { lo = lo; n = s.n / 2 } ≡ halved ids id s
  unfolding halved
  once_some mid lo a h em ea el =
      let e : lo ≡ cond (ltb (get_or ids (s.lo + (s.n - 1) / 2) 0) id) (s.lo + (s.n - 1) / 2 + 1) s.lo
      = el ∙ ap (λ (x : ℕ). cond (ltb x id) (mid + 1) s.lo) ea ∙ ap (λ (x : ℕ). cond (ltb (get_or ids x 0) id) (x + 1) s.lo) em in
      ap (λ (x : ℕ). record { lo = x; n = s.n / 2 }) e ∙
      sym (ap (λ (b : Bool). cond b s (record { lo = cond (ltb (get_or ids (s.lo + (s.n - 1) / 2) 0) id) (s.lo + (s.n - 1) / 2 + 1) s.lo; n = s.n / 2 })) (ne_eqb s.n 0 h))

-- one halving leads to the same place
pub leads_on : (ids : List ℕ) (id : ℕ) (s : Span) → halve s.n ids id s.lo s.n ≡ halve (halved ids id s).n ids id (halved ids id s).lo (halved ids id s).n
unfolding halved
leads_on ids id s = go (eqb s.n 0) refl
  where
    next : Span
    next = record { lo = cond (ltb (get_or ids (s.lo + (s.n - 1) / 2) 0) id) (s.lo + (s.n - 1) / 2 + 1) s.lo; n = s.n / 2 }

    go : (b : Bool) → eqb s.n 0 ≡ b → halve s.n ids id s.lo s.n ≡ halve (cond b s next).n ids id (cond b s next).lo (cond b s next).n
    go true e = refl
    go false e =
        let z = eqb-false s.n 0 e in
        let some : 0 < s.n = omega (arith, z) in
        let m : s.n ≡ suc (s.n - 1) = omega arith in
        ap (λ (t : ℕ). halve t ids id s.lo s.n) m
        ∙ one (s.n - 1) ids id s.lo s.n some
        ∙ enough (s.n - 1) (s.n / 2) ids id next.lo (s.n / 2) (omega arith) (omega arith)

-- the ways out of `halve_two`
module _ (ids : List ℕ) (id : ℕ) (s : Span) (mid low high a b c : ℕ) (some : s.n / 2 ≡ 0 → ⊥)
    (em : mid ≡ s.lo + (s.n - 1) / 2) (el : low ≡ s.lo + (s.n / 2 - 1) / 2) (eh : high ≡ mid + 1 + (s.n / 2 - 1) / 2)
    (ea : a ≡ get_or ids mid 0) (eb : b ≡ get_or ids low 0) (ec : c ≡ get_or ids high 0) where
  two_halved : (x : Bool) → ltb a id ≡ x → (lo : ℕ) → lo ≡ cond x (cond (ltb c id) (high + 1) (mid + 1)) (cond (ltb b id) (low + 1) s.lo)
      → record { lo = lo; n = s.n / 2 / 2 } ≡ halved ids id (halved ids id s)
  two_halved true e lo is =
      once_some ids id (record { lo = mid + 1; n = s.n / 2 }) high lo c some eh ec is
      ∙ ap (halved ids id) (once_some ids id s mid (mid + 1) a (λ z. some (omega arith)) em ea (sym (ap (λ (x : Bool). cond x (mid + 1) s.lo) e)))
  two_halved false e lo is =
      once_some ids id (record { lo = s.lo; n = s.n / 2 }) low lo b some el eb is
      ∙ ap (halved ids id) (once_some ids id s mid s.lo a (λ z. some (omega arith)) em ea (sym (ap (λ (x : Bool). cond x (mid + 1) s.lo) e)))

  pub two_lead : (lo : ℕ) → lo ≡ cond (ltb a id) (cond (ltb c id) (high + 1) (mid + 1)) (cond (ltb b id) (low + 1) s.lo) → leads_to ids id (record { lo = lo; n = s.n / 2 / 2 }) ≡ leads_to ids id s
  two_lead lo is =
      ap (leads_to ids id) (two_halved (ltb a id) refl lo is) ∙ sym (leads_on ids id s ∙ leads_on ids id (halved ids id s))

-- a quarter stays in the span
pub two_in : (x y z : Bool) (lo n : ℕ) → (n / 2 ≡ 0 → ⊥)
    → cond x (cond y (lo + (n - 1) / 2 + 1 + (n / 2 - 1) / 2 + 1) (lo + (n - 1) / 2 + 1)) (cond z (lo + (n / 2 - 1) / 2 + 1) lo) + n / 2 / 2 ≤ lo + n
two_in true true z lo n h =
    let g : 0 < n / 2 = omega (arith, h) in
    let p = narrows true lo n (omega arith) in
    let q = narrows true (lo + (n - 1) / 2 + 1) (n / 2) g in
    omega (arith, p, q)
two_in true false z lo n h = let g : 0 < n / 2 = omega (arith, h) in omega arith
two_in false y true lo n h = let g : 0 < n / 2 = omega (arith, h) in omega arith
two_in false y false lo n h = omega arith

-- the ways out of `halve_on`
pub on_more : (ids : List ℕ) (id goal : ℕ) (s a : Span) → a ≡ halved ids id s → goal ≡ halve s.n ids id s.lo s.n → goal ≡ halve a.n ids id a.lo a.n
on_more ids id goal s a e g = g ∙ leads_on ids id s ∙ ap (λ (x : Span). halve x.n ids id x.lo x.n) (sym e)

pub on_less : (ids : List ℕ) (id : ℕ) (s : Span) → 0 < s.n → (halved ids id s).n < s.n
unfolding halved
on_less ids id s h = rw (ne_eqb s.n 0 (λ z. omega arith)) (omega arith)

pub on_end : (ids : List ℕ) (id goal lo n : ℕ) → n ≤ 0 → goal ≡ halve n ids id lo n → lo ≡ goal
on_end ids id goal lo n h g = sym (g ∙ over n ids id lo n (omega arith))

-- the part of a table, as it is lent
pub part_is : (seen : List ℕ) (start count : ℕ) → take (start + count - start) (drop start seen) ≡ ids_of seen start count
part_is seen start count = let e : start + count - start ≡ count = omega arith in ap (λ (k : ℕ). take k (drop start seen)) e

-- twelve halvings, and those left
pub found_at : (ids : List ℕ) (id : ℕ) (a b c : Span) (r : ℕ) → leads_to ids id a ≡ leads_to ids id (record { lo = 0; n = length ids }) → leads_to ids id b ≡ leads_to ids id a
    → leads_to ids id c ≡ leads_to ids id b → r ≡ leads_to ids id c → r ≡ position id ids
unfolding position
found_at ids id a b c r ea eb ec er = er ∙ ec ∙ eb ∙ ea

module _ (seen : List ℕ) (start count id : ℕ) (fits : start + count ≤ length seen) where
  pub length_ids : length (ids_of seen start count) ≡ count
  length_ids = length-take-le count (drop start seen) (rw length-drop (omega arith))

  pub reads : (k : ℕ) → k < count → get_or (ids_of seen start count) k 0 ≡ get_or seen (start + k) 0
  reads k h = get_or-take count (drop start seen) k 0 h ∙ get_or-drop start seen k 0

  -- what stands at the place that was found_in
  module _ (p : ℕ) (at : p ≡ position id (ids_of seen start count)) where
    pub stands : p < count → eqb (get_or seen (start + p) 0) id ≡ found_in id (ids_of seen start count)
    stands h =
        ap (λ (x : ℕ). eqb x id) (sym (reads p h))
        ∙ ap (λ (b : Bool). b && eqb (get_or (ids_of seen start count) p 0) id) (sym (lt-ltb p (length (ids_of seen start count)) (omega (arith, length_ids))))
        ∙ ap (λ (k : ℕ). ltb k (length (ids_of seen start count)) && eqb (get_or (ids_of seen start count) k 0) id) at

    pub past : count ≤ p → false ≡ found_in id (ids_of seen start count)
    past h =
        ap (λ (b : Bool). b && eqb (get_or (ids_of seen start count) p 0) id) (sym (le-ltb p (length (ids_of seen start count)) (omega (arith, length_ids))))
        ∙ ap (λ (k : ℕ). ltb k (length (ids_of seen start count)) && eqb (get_or (ids_of seen start count) k 0) id) at

    -- nothing is removed_in
    pub kept : false ≡ found_in id (ids_of seen start count) → (count ≡ length (removed_in id (ids_of seen start count))) × (seen ≡ put_words seen start (removed_in id (ids_of seen start count)))
    kept f =
        let none : ids_of seen start count ≡ removed_in id (ids_of seen start count) =
        ap (λ (b : Bool). cond b (take (position id (ids_of seen start count)) (ids_of seen start count) ++
        drop (suc (position id (ids_of seen start count))) (ids_of seen start count)) (ids_of seen start count)) f in
        (sym length_ids ∙ ap length none, is_put seen seen start count (ids_of seen start count) length_ids refl refl refl ∙ ap (put_words seen start) none)

    -- the id at the place is removed_in
    pub gone : p < count → true ≡ found_in id (ids_of seen start count) → (l : List ℕ) → l ≡ closed seen (start + p + 1) (start + count) 1
        → (count - 1 ≡ length (removed_in id (ids_of seen start count))) × (l ≡ put_words seen start (removed_in id (ids_of seen start count)))
    gone h f l e =
        let ids : List ℕ = ids_of seen start count in
        let n : p + 1 ≡ suc p = omega arith in
        let one_less : take p ids ++ drop (suc p) ids ≡ removed_in id ids
        = ap (λ (k : ℕ). take k ids ++ drop (suc k) ids) at ∙ ap (λ (b : Bool). cond b (take (position id ids) ids ++ drop (suc (position id ids)) ids) ids) f in
        let ln : length (take p ids ++ drop (suc p) ids) ≡ count - 1 = simp (length-append, length-take, length-drop) (omega (arith, length_ids)) in (
          sym ln ∙ ap length one_less,
          e ∙ part_closed seen start count p 1 (omega arith) fits ∙ ap (λ (k : ℕ). put_words seen start (take p ids ++ drop k ids)) n ∙ ap (put_words seen start) one_less,
        )

-- one id more
pub added : (seen : List ℕ) (start count id p : ℕ) (l : List ℕ) → start + count + 1 ≤ length seen → p ≤ count
    → l ≡ opened seen (start + p) (start + count) 1 → set l (start + p) id ≡ put_words seen start (placed_at p id (ids_of seen start count))
added seen start count id p l room h e =
    ap (λ (x : List ℕ). set x (start + p) id) e
    ∙ opened_set seen (start + p) (start + count) id (omega arith) room
    ∙ part_inserted seen start count p (id ∷ []) h room
