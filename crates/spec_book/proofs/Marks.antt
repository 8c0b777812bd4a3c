-- Marks, and the originals that stand for them.
use mathlib.Core.Path.{◌≡◌, refl, sym, ap, ◌∙◌, subst}
use Prim.Native.Nat.{ℕ, zero, suc, ◌<◌}
use native.Mathlib.Omega.{arith}
use mathlib.Core.Bool.{Bool, true, false, cond, not, ◌&&◌, ◌||◌, false≢true}
use mathlib.Core.List.{List, [], ◌∷◌, ◌++◌}
use lib.Dec.{T, eqb, ltb}
use lib.ListN.{length, get_or, set}
use lib.Seq.{get_or-set_same, get_or-set_other}
use borrow.Author.Tests.{eqb-true, eqb-false, eq-eqb, ne_eqb}
use Rattle.spec_book.specs.Book.{Event, scheduled, landed, dropped, down, flush_events, scheduling}
use Rattle.spec_book.specs.History.{original_of, clears, standing}
use Rattle.table_rows.specs.Rows.{pick}
use Rattle.table_rows.specs.Lists.{Each}
use Rattle.table_waiting.specs.declared.Copy.{Copy}
use Rattle.table_marks.specs.Marks.{found, placed, removed, Ordered, Rises, member}
use Rattle.table_marks.proofs.Rising.{place, placed_place, found_member_in, rises_placed_in, rises_keep}
use Rattle.table_marks.proofs.Ordered.{none_ordered, found_member, member_placed, ordered_placed, ordered_removed}
use Rattle.spec_network.specs.Accept.{Message, Timed, echo, echo_copies, mark}
use Rattle.spec_book.proofs.Each.{each_at, each_set}
use Rattle.spec_network.specs.Flush.{unmark, clearing, stops}
use Rattle.spec_network.specs.Lists.{some_of}
use Rattle.spec_network.specs.Layout.{plain, table, inserted, without}
use Rattle.spec_network.specs.Live.{is_original, Live, LiveBy}

-- an original is scheduled only where none of its id stands for its till
abbrev pub Apart : List Event → Type 0
Apart [] = Unit {0}
Apart (scheduled c ∷ es) = (is_original c ≡ true → standing c.delivery.to c.id es ≡ false) × Apart es
Apart (landed c ∷ es) = Apart es
Apart (dropped c ∷ es) = Apart es
Apart (down t ∷ es) = Apart es

-- ---- Tables of lists

module _ {A : Type 0} (d : A) where
  -- an update that keeps the default is seen at every place
  pub get_d_update : (f : A → A) → f d ≡ d → (l : List A) (t : ℕ) → get_or (set l t (f (get_or l t d))) t d ≡ f (get_or l t d)
  get_d_update f h [] t = sym h
  get_d_update f h (x ∷ xs) zero = refl
  get_d_update f h (x ∷ xs) (suc t) = get_d_update f h xs t

pub found_placed : (i : ℕ) (l : List ℕ) → Ordered l → found i l ≡ false → found i (placed i l) ≡ true
found_placed i l r f = found_member i (placed i l) (ordered_placed i l f r) ∙ member_placed i i l r ∙ rw (eq-eqb i i refl)

-- ---- Plain marks

pub member_inserted : (i j : ℕ) (l : List ℕ) → member i (inserted j l) ≡ (eqb i j || member i l)
member_inserted i j [] = refl
member_inserted i j (k ∷ l) = go (ltb k j) (member_inserted i j l)
  where
    swap : (a b c : Bool) → (a || (b || c)) ≡ (b || (a || c))
    swap true true c = refl
    swap true false c = refl
    swap false true c = refl
    swap false false c = refl

    go : (b : Bool) → member i (inserted j l) ≡ (eqb i j || member i l) → member i (cond b (k ∷ inserted j l) (j ∷ k ∷ l)) ≡ (eqb i j || (eqb i k || member i l))
    go true h = rw h (swap (eqb i k) (eqb i j) (member i l))
    go false h = refl

pub member_without : (i j : ℕ) (l : List ℕ) → member i (without j l) ≡ (not (eqb i j) && member i l)
member_without i j [] = go (eqb i j)
  where
    go : (b : Bool) → false ≡ (not b && false)
    go true = refl
    go false = refl
member_without i j (k ∷ l) = go (eqb j k) refl (eqb i j) refl (member_without i j l)
  where
    go : (b : Bool) → eqb j k ≡ b → (a : Bool) → eqb i j ≡ a → member i (without j l) ≡ (not a && member i l) → member i (pick (not b) (k ∷ without j l) (without j l)) ≡ (not a && (eqb i k || member i l))
    go true p true q h = h
    go true p false q h = h ∙ rw (ne_eqb i k (λ e. eqb-false i j q (e ∙ sym (eqb-true j k p))))
    go false p true q h = rw h (ap (λ (b : Bool). b || false) (ne_eqb i k (λ e. eqb-false j k p (sym (eqb-true i j q) ∙ e))))
    go false p false q h = rw h

-- rising ids still rise with one more
inserted_place : (i : ℕ) (l : List ℕ) → inserted i l ≡ place i l
inserted_place i [] = refl
inserted_place i (j ∷ l) = ap (λ (r : List ℕ). cond (ltb j i) (j ∷ r) (i ∷ j ∷ l)) (inserted_place i l)

pub rises_inserted : (i : ℕ) (l : List ℕ) → member i l ≡ false → Rises l → Rises (inserted i l)
rises_inserted i l f r = subst Rises (placed_place i l r ∙ sym (inserted_place i l)) (rises_placed_in i l (found_member_in i l r ∙ f) r)

-- the mark of j at u is set: read at i, t
pub member_set : (seen : List (List ℕ)) (u j t i : ℕ) → u < length seen
    → member i (get_or (mark plain u j seen) t []) ≡ ((eqb i j && eqb t u) || member i (get_or seen t []))
member_set seen u j t i h = go (eqb t u) refl
  where
    new : List ℕ
    new = inserted j (get_or seen u [])

    and_true : (b : Bool) → (b && true) ≡ b
    and_true true = refl
    and_true false = refl

    and_false : (b : Bool) → (b && false) ≡ false
    and_false true = refl
    and_false false = refl

    go : (b : Bool) → eqb t u ≡ b → member i (get_or (set seen u new) t []) ≡ ((eqb i j && b) || member i (get_or seen t []))
    go true p = rw (and_true (eqb i j), eqb-true t u p, get_or-set_same seen u new [] h) (member_inserted i j (get_or seen u []))
    go false p = rw (and_false (eqb i j)) (ap (member i) (get_or-set_other seen u t new [] (eqb-false t u p)))

-- the mark of j at u is cleared
pub member_clear : (seen : List (List ℕ)) (u j t i : ℕ)
    → member i (get_or (set seen u (without j (get_or seen u []))) t []) ≡ (not (eqb i j && eqb t u) && member i (get_or seen t []))
member_clear seen u j t i = go (eqb t u) refl
  where
    and_true : (b : Bool) → (b && true) ≡ b
    and_true true = refl
    and_true false = refl

    and_false : (b : Bool) → (b && false) ≡ false
    and_false true = refl
    and_false false = refl

    new : List ℕ
    new = without j (get_or seen u [])

    go : (b : Bool) → eqb t u ≡ b → member i (get_or (set seen u (without j (get_or seen u []))) t []) ≡ (not (eqb i j && b) && member i (get_or seen t []))
    go true p =
        rw (and_true (eqb i j), eqb-true t u p) (ap (member i) (get_d_update [] (without j) refl seen u) ∙ member_without i j (get_or seen u []))
    go false p = rw (and_false (eqb i j)) (ap (member i) (get_or-set_other seen u t new [] (eqb-false t u p)))

-- all marks of u are cleared
pub member_empty : (seen : List (List ℕ)) (u t i : ℕ) → member i (get_or (set seen u []) t []) ≡ (not (eqb t u) && member i (get_or seen t []))
member_empty seen u t i = go (eqb t u) refl
  where
    go : (b : Bool) → eqb t u ≡ b → member i (get_or (set seen u []) t []) ≡ (not b && member i (get_or seen t []))
    go true p = rw (eqb-true t u p) (ap (member i) (get_d_update [] (λ (l : List ℕ). []) refl seen u))
    go false p = ap (member i) (get_or-set_other seen u t [] [] (eqb-false t u p))

-- ---- A flush clears the marks of the originals that it drops

pub clearing_ordered : (s : Live) (cs : List Copy) (seen : List (List ℕ)) → Each Ordered seen → Each Ordered (clearing s cs seen)
clearing_ordered s [] seen e = e
clearing_ordered s (c ∷ cs) seen e = clearing_ordered s cs (cond (stops s c && is_original c) (unmark table c.delivery.to c.id seen) seen) (go (stops s c && is_original c))
  where
    go : (b : Bool) → Each Ordered (cond b (unmark table c.delivery.to c.id seen) seen)
    go true = each_set Ordered seen c.delivery.to (removed c.id (get_or seen c.delivery.to [])) e (ordered_removed c.id (get_or seen c.delivery.to []) (each_at Ordered seen c.delivery.to [] e none_ordered))
    go false = e

pub clearing_rises : (s : LiveBy plain) (cs : List Copy) (seen : List (List ℕ)) → Each Rises seen → Each Rises (clearing s cs seen)
clearing_rises s [] seen e = e
clearing_rises s (c ∷ cs) seen e = clearing_rises s cs (cond (stops s c && is_original c) (unmark plain c.delivery.to c.id seen) seen) (go (stops s c && is_original c))
  where
    go : (b : Bool) → Each Rises (cond b (unmark plain c.delivery.to c.id seen) seen)
    go true =
        let ids = get_or seen c.delivery.to [] in
        each_set Rises seen c.delivery.to (without c.id ids) e (rises_keep (λ (j : ℕ). not (eqb c.id j)) ids (each_at Rises seen c.delivery.to [] e tt))
    go false = e

pub clearing_agrees : (s : LiveBy plain) (cs : List Copy) (es : List Event) (seen : List (List ℕ))
    → ((t i : ℕ) → standing t i es ≡ member i (get_or seen t [])) → (t i : ℕ) → standing t i (flush_events s cs es) ≡ member i (get_or (clearing s cs seen) t [])
clearing_agrees s [] es seen h = h
clearing_agrees s (c ∷ cs) es seen h =
    clearing_agrees s cs (cond (stops s c) (dropped c) (landed c) ∷ es) (cond (stops s c && is_original c) (unmark plain c.delivery.to c.id seen) seen) (one (stops s c) (is_original c) refl)
  where
    cut : (t i : ℕ) → member i (get_or (unmark plain c.delivery.to c.id seen) t []) ≡ (not (eqb i c.id && eqb t c.delivery.to) && member i (get_or seen t []))
    cut t i = member_clear seen c.delivery.to c.id t i

    one : (b k : Bool) → is_original c ≡ k → (t i : ℕ) → standing t i (cond b (dropped c) (landed c) ∷ es) ≡ member i (get_or (cond (b && k) (unmark plain c.delivery.to c.id seen) seen) t [])
    one true true p t i = rw (p, h t i) (sym (cut t i))
    one true false p t i = rw p (h t i)
    one false k p t i = h t i

pub flushing_apart : (s : LiveBy plain) (cs : List Copy) (es : List Event) → Apart es → Apart (flush_events s cs es)
flushing_apart s [] es h = h
flushing_apart s (c ∷ cs) es h = flushing_apart s cs (cond (stops s c) (dropped c) (landed c) ∷ es) (go (stops s c))
  where
    go : (b : Bool) → Apart (cond b (dropped c) (landed c) ∷ es)
    go true = h
    go false = h

-- ---- Echoes neither stand for an id nor clear one

module _ (m : Message) (u : ℕ) where
  pub echoes_standing : (t i n : ℕ) (es : List Timed) (past : List Event) → standing t i (scheduling (echo_copies m u n es) past) ≡ standing t i past
  echoes_standing t i n [] past = refl
  echoes_standing t i n (e ∷ es) past = echoes_standing t i (suc n) es (scheduled (echo m u (suc n) e) ∷ past)

  pub echoes_apart : (n : ℕ) (es : List Timed) (past : List Event) → Apart past → Apart (scheduling (echo_copies m u n es) past)
  echoes_apart n [] past a = a
  echoes_apart n (e ∷ es) past a = echoes_apart (suc n) es (scheduled (echo m u (suc n) e) ∷ past) (λ z. absurd (false≢true z), a)

-- ---- From `Apart` to the statement on two originals

later_apart : (l es : List Event) → Apart (l ++ es) → Apart es
later_apart [] es h = h
later_apart (scheduled c ∷ l) es h = later_apart l es h.1
later_apart (landed c ∷ l) es h = later_apart l es h
later_apart (dropped c ∷ l) es h = later_apart l es h
later_apart (down t ∷ l) es h = later_apart l es h

cleared : (t i : ℕ) (m es : List Event) (c : Copy) → T (original_of t i c) → standing t i (m ++ scheduled c ∷ es) ≡ false → T (some_of (clears t i) m)
cleared t i [] es c o h = go (original_of t i c) o h
  where
    go : (b : Bool) → T b → (b || standing t i es) ≡ false → ⊥
    go true u e = let z : ◌≡◌ {A = ℕ} 0 1 = cc in omega arith
    go false u e = u
cleared t i (scheduled d ∷ m) es c o h = cleared t i m es c o (go (original_of t i d) h)
  where
    go : (b : Bool) → (b || standing t i (m ++ scheduled c ∷ es)) ≡ false → standing t i (m ++ scheduled c ∷ es) ≡ false
    go true e = cc
    go false e = e
cleared t i (landed d ∷ m) es c o h = cleared t i m es c o h
cleared t i (dropped d ∷ m) es c o h = go (original_of t i d) h (λ e. cleared t i m es c o e)
  where
    go : (b : Bool) → (not b && standing t i (m ++ scheduled c ∷ es)) ≡ false → (standing t i (m ++ scheduled c ∷ es) ≡ false → T (some_of (clears t i) m)) → T (b || some_of (clears t i) m)
    go true e k = tt
    go false e k = k e
cleared t i (down u ∷ m) es c o h = go (eqb t u) h (λ e. cleared t i m es c o e)
  where
    go : (b : Bool) → (not b && standing t i (m ++ scheduled c ∷ es)) ≡ false → (standing t i (m ++ scheduled c ∷ es) ≡ false → T (some_of (clears t i) m)) → T (b || some_of (clears t i) m)
    go true e k = tt
    go false e k = k e

fresh_original : (t i : ℕ) (d : Copy) (es : List Event) → (is_original d ≡ true → standing d.delivery.to d.id es ≡ false) → T (original_of t i d) → standing t i es ≡ false
fresh_original t i d es f o = go (is_original d) (eqb i d.id) (eqb t d.delivery.to) refl refl refl o
  where
    go : (k a b : Bool) → is_original d ≡ k → eqb i d.id ≡ a → eqb t d.delivery.to ≡ b → T (k && a && b) → standing t i es ≡ false
    go true true true z p q h = rw (eqb-true i d.id p, eqb-true t d.delivery.to q) (f z)
    go true true false z p q h = absurd h
    go true false b z p q h = absurd h
    go false a b z p q h = absurd h

-- No two originals of one id are scheduled for one till without, in between, a take-down of that till or a flush drop of such an original to it.
pub two_originals : (past l m es : List Event) (c d : Copy) (t i : ℕ) → Apart past → past ≡ l ++ scheduled d ∷ (m ++ scheduled c ∷ es)
    → T (original_of t i c) → T (original_of t i d) → T (some_of (clears t i) m)
two_originals past l m es c d t i h e oc od =
    let k : Apart (scheduled d ∷ (m ++ scheduled c ∷ es)) = later_apart l (scheduled d ∷ (m ++ scheduled c ∷ es)) (rw e at h) in
    cleared t i m es c oc (fresh_original t i d (m ++ scheduled c ∷ es) k.0 od)
