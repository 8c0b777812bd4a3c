-- The tables' marks, waiting copies and rings, and the book's: while the tables' order is kept, every decision, answer and question is the same of either, and so are both after each call.
use mathlib.Core.Path.{◌≡◌, refl, sym, ap, ◌∙◌, subst}
use Prim.Native.Nat.{ℕ, zero, suc, ◌<◌}
use native.Mathlib.Omega.{arith}
use mathlib.Core.Bool.{Bool, true, false, cond, not, ◌&&◌, ◌||◌, true≢false, false≢true}
use mathlib.Core.List.{List, [], ◌∷◌, map}
use lib.Dec.{eqb, ltb}
use lib.ListN.{length, get_or, set, replicate, length-set}
use lib.Seq.{get_or-set_same, get_or-set_other}
use borrow.Author.Tests.{ltb-true, ltb-false, lt-ltb, eqb-true, eqb-false, eq-eqb, ne_eqb}
use Rattle.table_rows.specs.Rows.{all_of}
use Rattle.table_rows.specs.Lists.{Each}
use Rattle.table_rows.proofs.Lists.{each_map}
use Rattle.table_waiting.specs.Waiting.{insert_copy, Sorted}
use Rattle.table_waiting.specs.declared.Copy.{Copy}
use Rattle.table_waiting.proofs.Order.{sorted_insert, insert_ordered}
use Rattle.table_ring.specs.Ring.{push}
use Rattle.table_rings.specs.Rings.{slots, scopes, number_of}
use Rattle.table_marks.specs.Marks.{found, placed, removed, listed, member, Rises, Ordered}
use Rattle.table_marks.proofs.Rising.{rises_keep}
use Rattle.table_marks.proofs.Ordered.{none_ordered, found_member, member_placed, member_removed, ordered_placed, ordered_removed, listed_rises, member_listed, length_listed}
use Rattle.spec_network.specs.Opening.{Sizes, Opening, link, global}
use Rattle.spec_network.specs.Layout.{plain, table, inserted, without, ring_of, with_ring, rings_in}
use Rattle.spec_network.specs.Live.{Carried, Live, LiveBy, plainly, is_original, ids_at, marked, stopped, rings_of}
use Rattle.spec_network.specs.Accept.{Entry, Message, message_of, selected, Drawn, drawn, context, echoes_of, carried_of, ring_for, copies, insert_all, remembered, Fate, deduplicated, partition, loss, fault, sent, first_fit, fate_of, effect, offered, live_after, Booked, booked, tally}
use Rattle.spec_network.specs.Flush.{served, stops, unmark, clearing}
use Rattle.spec_network.specs.Calls.{Call, Reading, is_blocked, transit, fired, is_down, next_time, tally_of, waiting_copies, marks_of, ids, counted, read, live_step, answer_of, accept, flush, take_down, bring_up, handlers, block, block_during, unblock, install, remove, decide, drain, reading}
use Rattle.spec_network.specs.Questions.{Room, alone, pooled, ask, ask4, ask5, ask6, ask7, ask8, ask9, ask11, ask_room, asked_in, first_no}
use Rattle.spec_book.proofs.Each.{both, each_at, each_set}
use Rattle.spec_book.proofs.Asking.{all_yes, apart_in}
use Rattle.spec_book.proofs.Fitting.{Limited}
use Rattle.spec_book.proofs.StepFits.{scope_below}
use Rattle.spec_book.proofs.Marks.{member_inserted, member_without, rises_inserted, clearing_ordered}
use Rattle.spec_book.proofs.Sound.{sent_unmarked}

-- ---- Rising ids are settled by which ids they are

above_none : (i : ℕ) (l : List ℕ) → Each (λ (j : ℕ). i < j) l → member i l ≡ false
above_none i [] e = refl
above_none i (j ∷ l) e = rw (ne_eqb i j (λ q. omega (arith, e.0, q))) (above_none i l e.1)

own_member : (i : ℕ) (l : List ℕ) → member i (i ∷ l) ≡ true
own_member i l = rw (eq-eqb i i refl)

-- the first of two rising lists is the same
first_same : (x y : ℕ) (xs ys : List ℕ) → Rises (x ∷ xs) → Rises (y ∷ ys) → ((i : ℕ) → member i (x ∷ xs) ≡ member i (y ∷ ys)) → x < y → ⊥
first_same x y xs ys r q h lt =
    let far : Each (λ (j : ℕ). x < j) (y ∷ ys) = (lt, each_map (λ (j : ℕ). y < j) (λ (j : ℕ). x < j) ys (λ j k. omega (arith, lt, k)) q.0) in
    true≢false (sym (own_member x xs) ∙ h x ∙ above_none x (y ∷ ys) far)

pub rises_same : (a b : List ℕ) → Rises a → Rises b → ((i : ℕ) → member i a ≡ member i b) → a ≡ b
rises_same [] [] r q h = refl
rises_same [] (y ∷ ys) r q h = absurd (false≢true (h y ∙ own_member y ys))
rises_same (x ∷ xs) [] r q h = absurd (true≢false (sym (own_member x xs) ∙ h x))
rises_same (x ∷ xs) (y ∷ ys) r q h = (λ j. e j ∷ rises_same xs ys r.1 q.1 tails j)
  where
    e : x ≡ y
    e = go (ltb x y) refl (ltb y x) refl
      where
        go : (a : Bool) → ltb x y ≡ a → (b : Bool) → ltb y x ≡ b → x ≡ y
        go true p b k = absurd (first_same x y xs ys r q h (ltb-true x y p))
        go false p true k = absurd (first_same y x ys xs q r (λ i. sym (h i)) (ltb-true y x k))
        go false p false k = omega (arith, ltb-false x y p, ltb-false y x k)

    tails : (i : ℕ) → member i xs ≡ member i ys
    tails i = go (eqb i x) refl (eqb i y) refl (h i)
      where
        go : (a : Bool) → eqb i x ≡ a → (b : Bool) → eqb i y ≡ b → (a || member i xs) ≡ (b || member i ys) → member i xs ≡ member i ys
        go true p b k u =
            let px : i ≡ x = eqb-true i x p in
            above_none i xs (subst (λ (n : ℕ). Each (λ (j : ℕ). n < j) xs) (sym px) r.0) ∙ sym (above_none i ys (subst (λ (n : ℕ). Each (λ (j : ℕ). n < j) ys) (sym (px ∙ e)) q.0))
        go false p true k u = absurd (eqb-false i x p (eqb-true i y k ∙ sym e))
        go false p false k u = u

-- ---- THE MARKS OF A TILL: those that are listed are the plain ones, after one more and one less too

pub found_listed : (i : ℕ) (l : List ℕ) → Ordered l → found i l ≡ member i (listed l)
found_listed i l r = found_member i l r ∙ sym (member_listed i l)

pub listed_placed : (i : ℕ) (l : List ℕ) → Ordered l → found i l ≡ false → listed (placed i l) ≡ inserted i (listed l)
listed_placed i l r f =
    rises_same (listed (placed i l)) (inserted i (listed l)) (listed_rises (placed i l) (ordered_placed i l f r)) (rises_inserted i (listed l) (sym (found_listed i l r) ∙ f) (listed_rises l r))
    (λ j. member_listed j (placed i l) ∙ member_placed j i l r ∙ sym (member_inserted j i (listed l) ∙ ap (λ (b : Bool). eqb j i || b) (member_listed j l)))

pub listed_removed : (i : ℕ) (l : List ℕ) → Ordered l → listed (removed i l) ≡ without i (listed l)
listed_removed i l r =
    rises_same (listed (removed i l)) (without i (listed l)) (listed_rises (removed i l) (ordered_removed i l r)) (rises_keep (λ (j : ℕ). not (eqb i j)) (listed l) (listed_rises l r))
    (λ j. member_listed j (removed i l) ∙ member_removed j i l r ∙ sym (member_without j i (listed l) ∙ ap (λ (b : Bool). not (eqb j i) && b) (member_listed j l)))

-- ---- Of every till

module _ {A B : Type 0} (f : A → B) where
  map_set : (l : List A) (t : ℕ) (x : A) → map f (set l t x) ≡ set (map f l) t (f x)
  map_set [] t x = refl
  map_set (a ∷ l) zero x = refl
  map_set (a ∷ l) (suc t) x = ap (λ (r : List B). f a ∷ r) (map_set l t x)

  get_d_map : (l : List A) (t : ℕ) (d : A) → get_or (map f l) t (f d) ≡ f (get_or l t d)
  get_d_map [] t d = refl
  get_d_map (a ∷ l) zero d = refl
  get_d_map (a ∷ l) (suc t) d = get_d_map l t d

  pub map_replicate : (n : ℕ) (a : A) → map f (replicate n a) ≡ replicate n (f a)
  map_replicate zero a = refl
  map_replicate (suc n) a = ap (λ (r : List B). f a ∷ r) (map_replicate n a)

module _ (seen : List (List ℕ)) (r : Each Ordered seen) (t : ℕ) where
  here : Ordered (get_or seen t [])
  here = each_at Ordered seen t [] r none_ordered

  at : get_or (map listed seen) t [] ≡ listed (get_or seen t [])
  at = get_d_map listed seen t []

  set_placed : (i : ℕ) → found i (get_or seen t []) ≡ false → map listed (set seen t (placed i (get_or seen t []))) ≡ set (map listed seen) t (inserted i (get_or (map listed seen) t []))
  set_placed i f = map_set listed seen t (placed i (get_or seen t [])) ∙ ap (set (map listed seen) t) (listed_placed i (get_or seen t []) here f ∙ ap (inserted i) (sym at))

  set_removed : (i : ℕ) → map listed (set seen t (removed i (get_or seen t []))) ≡ set (map listed seen) t (without i (get_or (map listed seen) t []))
  set_removed i = map_set listed seen t (removed i (get_or seen t [])) ∙ ap (set (map listed seen) t) (listed_removed i (get_or seen t []) here ∙ ap (without i) (sym at))

-- ---- WAITING COPIES: on copies in order the tables' insertion is the plain one

same_insert_all : (cs w : List Copy) → Sorted w → insert_all table cs w ≡ insert_all plain cs w
same_insert_all [] w h = refl
same_insert_all (c ∷ cs) w h = same_insert_all cs (insert_copy c w) (sorted_insert c w h) ∙ ap (insert_all plain cs) (insert_ordered c w h)

sorted_insert_all : (cs w : List Copy) → Sorted w → Sorted (insert_all table cs w)
sorted_insert_all [] w h = h
sorted_insert_all (c ∷ cs) w h = sorted_insert_all cs (insert_copy c w) (sorted_insert c w h)

-- ---- RINGS: no two types and scopes have one number

module _ (rings : List (List Carried)) (kind scope : ℕ) (there : number_of kind scope < length rings) (low : scope < scopes) where
  same_ring : ring_of table rings kind scope ≡ rings_in rings kind scope
  same_ring = ap (λ (b : Bool). cond b (ring_of table rings kind scope) []) (sym (lt-ltb scope scopes low))

  same_rings : (ring : List Carried) → rings_in (with_ring table rings kind scope ring) ≡ with_ring plain (rings_in rings) kind scope ring
  same_rings ring = (λ j i s. at_each i s (eqb i kind) refl (eqb s scope) refl (ltb s scopes) refl j)
    where
      at_each : (i s : ℕ) (a : Bool) → eqb i kind ≡ a → (b : Bool) → eqb s scope ≡ b → (c : Bool) → ltb s scopes ≡ c
          → cond c (get_or (set rings (number_of kind scope) ring) (number_of i s) []) [] ≡ cond (a && b) ring (cond c (get_or rings (number_of i s) []) [])
      at_each i s true p true q true r = ap (λ (n : ℕ). get_or (set rings (number_of kind scope) ring) n []) (λ j. number_of (eqb-true i kind p j) (eqb-true s scope q j)) ∙ get_or-set_same rings (number_of kind scope) ring [] there
      at_each i s true p true q false r = absurd (omega (arith, ltb-false s scopes r, eqb-true s scope q, low))
      at_each i s true p false q true r = get_or-set_other rings (number_of kind scope) (number_of i s) ring [] (λ e. eqb-false s scope q (omega (arith, e, low, ltb-true s scopes r)))
      at_each i s true p false q false r = refl
      at_each i s false p b q true r = get_or-set_other rings (number_of kind scope) (number_of i s) ring [] (λ e. eqb-false i kind p (omega (arith, e, low, ltb-true s scopes r)))
      at_each i s false p b q false r = refl

-- no ring has anything
pub no_rings_lem : (n kind scope : ℕ) → rings_in (replicate n []) kind scope ≡ []
no_rings_lem n kind scope = go (ltb scope scopes)
  where
    none : (m i : ℕ) → ◌≡◌ {A = List Carried} (get_or (replicate m []) i []) []
    none zero i = refl
    none (suc m) zero = refl
    none (suc m) (suc i) = none m i

    go : (b : Bool) → ◌≡◌ {A = List Carried} (cond b (get_or (replicate n []) (number_of kind scope) []) []) []
    go true = none n (number_of kind scope)
    go false = refl

-- ---- What is read

pub record InOrder (z : Sizes) (s : Live) : Type 0 where
  pub marks : Each Ordered s.seen
  pub queue : Sorted s.queue.waiting
  pub rings : length s.rings ≡ rings_of z

-- a message whose ring is one of them
pub record HasRing (z : Sizes) (m : Message) : Type 0 where
  pub kind : m.kind < z.types
  pub scope : m.scope < scopes

module _ (s : Live) (r : Each Ordered s.seen) where
  pub same_marked : (t i : ℕ) → marked s t i ≡ marked (plainly s) t i
  same_marked t i = found_listed i (ids_at s t) (here s.seen r t) ∙ ap (member i) (sym (at s.seen r t))

  same_slots : (t : ℕ) → length (ids_at s t) ≡ length (ids_at (plainly s) t)
  same_slots t = sym (length_listed (ids_at s t)) ∙ ap length (sym (at s.seen r t))

-- ---- Accept

module _ (o : Opening) (m : Message) (q : HasRing o.sizes m) where
  module _ (s : Live) (r : InOrder o.sizes s) where
    ring_there : number_of m.kind m.scope < length s.rings
    ring_there = rw r.rings (omega (arith, q.kind, q.scope))

    ring_same : ring_for s m ≡ ring_for (plainly s) m
    ring_same = same_ring s.rings m.kind m.scope ring_there q.scope

    same_drawn : (t : ℕ) → drawn o m t s ≡ drawn o m t (plainly s)
    unfolding drawn
    same_drawn t =
        let l = o.draws.loss m.from t (get_or s.words (link m.from t) 0) in
        let d = o.draws.latency m.from t m.wire l.words in
        (λ j. record { loss = l; latency = d; verdict = o.draws.decide (context o m t) s.engine.rules s.engine.words; echoes = echoes_of o m t (ring_same j) d.words })

    same_fate : (t : ℕ) → fate_of o m s t ≡ fate_of o m (plainly s) t
    same_fate t = (λ j. first_fit (same_marked s r.marks t m.id j) (stopped s m.from t m.now) (same_drawn t j).loss.value (same_drawn t j).verdict.drops)

    same_remembered : rings_in (remembered o m s) ≡ remembered o m (plainly s)
    same_remembered = go o.draws.echoing
      where
        ring : List Carried → List Carried
        ring l = push slots l (carried_of m)

        go : (b : Bool) → rings_in (cond b (with_ring table s.rings m.kind m.scope (ring (ring_for s m))) s.rings) ≡ cond b (with_ring plain (rings_in s.rings) m.kind m.scope (ring (ring_for (plainly s) m))) (rings_in s.rings)
        go true =
            same_rings s.rings m.kind m.scope ring_there q.scope (ring (ring_for s m))
            ∙ (λ j. with_ring plain (rings_in s.rings) m.kind m.scope (ring (ring_same j)))
        go false = refl

    same_effect : (d : Drawn) (t : ℕ) (c : Fate) → (c ≡ sent → marked s t m.id ≡ false) → plainly (effect o m c s d t) ≡ effect o m c (plainly s) d t
    same_effect d t deduplicated f = refl
    same_effect d t partition f = refl
    same_effect d t loss f = refl
    same_effect d t fault f = refl
    same_effect d t sent f =
        let x = effect o m sent (plainly s) d t in
        (λ j. record { tills = x.tills; seen = set_placed s.seen r.marks t m.id (f refl) j; engine = x.engine; rings = same_remembered j; words = x.words; queue = record { sequence = x.queue.sequence; waiting = same_insert_all (copies o m s d t) s.queue.waiting r.queue j }; log = x.log })

    remembered_many : length (remembered o m s) ≡ rings_of o.sizes
    remembered_many = go o.draws.echoing
      where
        go : (b : Bool) → length (cond b (with_ring table s.rings m.kind m.scope (push slots (ring_for s m) (carried_of m))) s.rings) ≡ rings_of o.sizes
        go true = length-set s.rings (number_of m.kind m.scope) _ ∙ r.rings
        go false = r.rings

    effect_order : (d : Drawn) (t : ℕ) (c : Fate) → (c ≡ sent → marked s t m.id ≡ false) → InOrder o.sizes (effect o m c s d t)
    effect_order d t deduplicated f = r
    effect_order d t partition f = r
    effect_order d t loss f = record { marks = r.marks; queue = r.queue; rings = r.rings }
    effect_order d t fault f = record { marks = r.marks; queue = r.queue; rings = r.rings }
    effect_order d t sent f = record {
      marks = each_set Ordered s.seen t (placed m.id (ids_at s t)) r.marks (ordered_placed m.id (ids_at s t) (f refl) (here s.seen r.marks t));
      queue = sorted_insert_all (copies o m s d t) s.queue.waiting r.queue;
      rings = remembered_many;
    }

    unmarked : (t : ℕ) → fate_of o m s t ≡ sent → marked s t m.id ≡ false
    unmarked t = let d = drawn o m t s in sent_unmarked (marked s t m.id) (stopped s m.from t m.now) d.loss.value d.verdict.drops

    same_offer : (t : ℕ) → plainly (offered o m s t) ≡ offered o m (plainly s) t
    unfolding offered
    same_offer t = same_effect (drawn o m t s) t (fate_of o m s t) (unmarked t) ∙ (λ j. effect o m (same_fate t j) (plainly s) (same_drawn t j) t)

    offer_order : (t : ℕ) → InOrder o.sizes (offered o m s t)
    unfolding offered
    offer_order t = effect_order (drawn o m t s) t (fate_of o m s t) (unmarked t)

  same_after : (ts : List ℕ) (s : Live) → InOrder o.sizes s → plainly (live_after o m s ts) ≡ live_after o m (plainly s) ts
  same_after [] s r = refl
  same_after (t ∷ ts) s r = same_after ts (offered o m s t) (offer_order s r t) ∙ ap (λ (x : LiveBy plain). live_after o m x ts) (same_offer s r t)

  same_booked : (ts : List ℕ) (s : Live) → InOrder o.sizes s → booked o m s ts ≡ booked o m (plainly s) ts
  same_booked [] s r = refl
  same_booked (t ∷ ts) s r =
      let rest : booked o m (offered o m s t) ts ≡ booked o m (offered o m (plainly s) t) ts = same_booked ts (offered o m s t) (offer_order s r t) ∙ ap (λ (x : LiveBy plain). booked o m x ts) (same_offer s r t) in
      (λ j. record { till = t; fate = same_fate s r t j } ∷ rest j)

-- ---- Flush

same_clearing : (s : Live) (cs : List Copy) (seen : List (List ℕ)) → Each Ordered seen → map listed (clearing s cs seen) ≡ clearing (plainly s) cs (map listed seen)
same_clearing s [] seen r = refl
same_clearing s (c ∷ cs) seen r =
    same_clearing s cs (cond (stops s c && is_original c) (unmark table c.delivery.to c.id seen) seen) (clearing_ordered s (c ∷ []) seen r)
    ∙ ap (clearing (plainly s) cs) (go (stops s c && is_original c))
  where
    go : (b : Bool) → map listed (cond b (unmark table c.delivery.to c.id seen) seen) ≡ cond b (unmark plain c.delivery.to c.id (map listed seen)) (map listed seen)
    go true = set_removed seen r c.delivery.to c.id
    go false = refl

-- ---- EVERY CALL

-- the ring of an accepted entry is there: question 5
has_ring : (o : Opening) → Limited o.sizes → (room : Room) (s : Live) (e : Entry) → first_no (asked_in o room s (accept e true)) ≡ 0 → HasRing o.sizes (message_of o e)
has_ring o lim room s e h =
    let five = (all_yes (asked_in o room s (accept e true)) (apart_in o room s (accept e true)) h).1.0 in
    let x = both (ltb e.kind o.sizes.types && ltb e.class o.sizes.classes) (eqb e.scope global || ltb e.scope o.sizes.shards) five in
    let low = scope_below o e.scope o.sizes.shards lim.shards x.1 in
    record { kind = ltb-true e.kind o.sizes.types (both (ltb e.kind o.sizes.types) (ltb e.class o.sizes.classes) x.0).0; scope = omega (arith, low) }

module _ (o : Opening) (lim : Limited o.sizes) (s : Live) (r : InOrder o.sizes s) (room : Room) where
  pub same_step : (c : Call) → first_no (asked_in o room s c) ≡ 0 → plainly (live_step o s c) ≡ live_step o (plainly s) c
  same_step (accept e true) h = same_after o (message_of o e) (has_ring o lim room s e h) (selected o s e.scope e.from) s r
  same_step (accept e false) h = refl
  same_step (flush now rows) h =
      let x = live_step o (plainly s) (flush now rows) in
      (λ j. record { tills = x.tills; seen = same_clearing s (served now rows s) s.seen r.marks j; engine = x.engine; rings = x.rings; words = x.words; queue = x.queue; log = x.log })
  same_step (take_down t) h =
      let x = live_step o (plainly s) (take_down t) in
      (λ j. record { tills = x.tills; seen = map_set listed s.seen t [] j; engine = x.engine; rings = x.rings; words = x.words; queue = x.queue; log = x.log })
  same_step (bring_up t shards) h = refl
  same_step (handlers t gossip host) h = refl
  same_step (block from to) h = refl
  same_step (block_during from to start end) h = refl
  same_step (unblock from to) h = refl
  same_step (install card) h = refl
  same_step (remove id) h = refl
  same_step (decide x) h = refl
  same_step (drain rows) h = refl
  same_step (reading x) h = refl

  same_read : (x : Reading) → read s x ≡ read (plainly s) x
  same_read (is_blocked from to now) = refl
  same_read (transit t) = refl
  same_read (fired id) = refl
  same_read (is_down t) = refl
  same_read next_time = refl
  same_read (tally_of class) = refl
  same_read (waiting_copies rows) = refl
  same_read (marks_of t places) = ap ids (sym (at s.seen r.marks t))

  pub same_answer : (c : Call) → first_no (asked_in o room s c) ≡ 0 → answer_of o s c ≡ answer_of o (plainly s) c
  same_answer (accept e true) h = ap (λ (l : List Booked). counted (tally l)) (same_booked o (message_of o e) (has_ring o lim room s e h) (selected o s e.scope e.from) s r)
  same_answer (accept e false) h = refl
  same_answer (flush now rows) h = refl
  same_answer (take_down t) h = refl
  same_answer (bring_up t shards) h = refl
  same_answer (handlers t gossip host) h = refl
  same_answer (block from to) h = refl
  same_answer (block_during from to start end) h = refl
  same_answer (unblock from to) h = refl
  same_answer (install card) h = refl
  same_answer (remove id) h = refl
  same_answer (decide x) h = refl
  same_answer (drain rows) h = refl
  same_answer (reading x) h = same_read x

-- ---- EVERY QUESTION

module _ (o : Opening) (s : Live) (r : InOrder o.sizes s) where
  same_ten : (e : Entry) → all_of (λ (t : ℕ). marked s t (message_of o e).id || ltb (length (ids_at s t)) o.sizes.seen_slots) (selected o s e.scope e.from)
      ≡ all_of (λ (t : ℕ). marked (plainly s) t (message_of o e).id || ltb (length (ids_at (plainly s) t)) o.sizes.seen_slots) (selected o (plainly s) e.scope e.from)
  same_ten e = (λ j. all_of (λ (t : ℕ). same_marked s r.marks t (message_of o e).id j || ltb (same_slots s r.marks t j) o.sizes.seen_slots) (selected o s e.scope e.from))

  pub same_asked : (room : Room) (c : Call) → asked_in o room s c ≡ asked_in o room (plainly s) c
  same_asked alone (accept e true) = (λ j. ask4 o e.from ∷ ask5 o e ∷ ask6 o e ∷ ask7 o e.now ∷ ask8 o s e ∷ ask9 o s e ∷ ask 10 (same_ten e j) ∷ ask11 o s e ∷ [])
  same_asked (pooled free) (accept e true) = (λ j. ask4 o e.from ∷ ask5 o e ∷ ask6 o e ∷ ask7 o e.now ∷ ask8 o s e ∷ ask9 o s e ∷ ask 10 (same_ten e j) ∷ ask_room o s e (pooled free) ∷ [])
  same_asked room (accept e false) = refl
  same_asked room (flush now rows) = refl
  same_asked room (take_down t) = refl
  same_asked room (bring_up t shards) = refl
  same_asked room (handlers t gossip host) = refl
  same_asked room (block from to) = refl
  same_asked room (block_during from to start end) = refl
  same_asked room (unblock from to) = refl
  same_asked room (install card) = refl
  same_asked room (remove id) = refl
  same_asked room (decide x) = refl
  same_asked room (drain rows) = refl
  same_asked room (reading x) = refl
