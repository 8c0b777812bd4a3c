-- M-112's theorem: over every list of calls, with calls on names, the tables are those that the bookkeeper's list leaves.
use mathlib.Core.Path.{◌≡◌, refl, sym, ap, ◌∙◌, subst}
use Prim.Native.Nat.{ℕ, zero, suc, ◌<◌}
use native.Mathlib.Omega.{arith}
use mathlib.Core.Bool.{Bool, true, false, cond, not, ◌&&◌, false≢true}
use mathlib.Core.Option.{Option, none, some}
use mathlib.Core.List.{List, [], ◌∷◌, ◌++◌}
use lib.Dec.{eqb, leb, ltb}
use lib.ListN.{length, get_or, set, take, drop, replicate, length-set}
use lib.Seq.{get_or-set_same, get_or-set_other}
use borrow.Author.Tests.{eqb-true, eqb-false, eq-eqb, ltb-true}
use Rattle.table_rows.specs.Rows.{all_of}
use Rattle.table_rows.specs.Lists.{Each}
use Rattle.spec_network.specs.Lists.{every}
use Rattle.spec_network.specs.Opening.{Sizes, Settings, Opening}
use Rattle.spec_network.specs.Live.{Live}
use Rattle.spec_network.specs.Accept.{Entry}
use Rattle.spec_network.specs.Calls.{accept, flush}
use Rattle.spec_network.specs.Questions.{first_no}
use Rattle.spec_network.specs.Tables.{cell, Tables, sizes_at}
use Rattle.spec_network.specs.Real.{opening_of}
use Rattle.spec_network.specs.Lent.{every_of, setup_tests, lent_tests}
use Rattle.spec_network.specs.Writes.{is_number}
use Rattle.spec_network.specs.Open.{open_number, open_tables}
use Rattle.spec_book.specs.Book.{Book, opened}
use Rattle.spec_book.specs.Demand3.{Item, Admitted, AllAdmitted, tables_after, tables_at_end, book_after, book_at_end, CallHolds, CallsHold}
use Rattle.spec_book.proofs.Each.{both, join, each_all, each_every, all_each, each_set}
use Rattle.spec_book.proofs.Formed.{four_of}
use Rattle.spec_book.proofs.Unwritten.{same_end}
use Rattle.spec_book.proofs.Held.{Held, yes1}
use Rattle.spec_book.proofs.Asking.{numbers_apart, first_no_lem}
use Rattle.spec_book.proofs.Drawing.{by}
use Rattle.spec_book.proofs.Final.{Bears, open_bears, end_held, demand3}
use Rattle.spec_names.specs.Keeping.{NameCall, keep, return, give_up, names, stored, restored, need_words, roomy, keeps, open_shelf, shelf_tests, nine_held, nine_tests, name_tests, name_question1, asked_name, number_by, tables_if, shelf_if, memory_if, memory_of, name_number, name_refused}
use Rattle.spec_names.specs.Named.{Act, call, named, strangers, or_else, is_some, Side, side_if, side_after, side_at_end, Told, nothing_told, told_name, told_after, told_at_end, AdmittedName, AdmittedAct, AdmittedActs, OnlyNoName, book_of, ActHolds, ActsHold, open_side, NamedDemand3}
use Rattle.spec_names.proofs.Memory.{restore_back, take_stored}

-- ---- One call more

tables_more : (is : List Item) (T : Tables) (i : Item) → tables_at_end T (is ++ (i ∷ [])) ≡ tables_after (tables_at_end T is) i
tables_more [] T i = refl
tables_more (k ∷ is) T i = tables_more is (tables_after T k) i

admitted_more : (is : List Item) (i : Item) → AllAdmitted is → Admitted i → AllAdmitted (is ++ (i ∷ []))
admitted_more [] i h a = (a, tt)
admitted_more (k ∷ is) i h a = (h.0, admitted_more is i h.1 a)

last_call : (o : Opening) (is : List Item) (b : Book) (T : Tables) (i : Item) → CallsHold o b T (is ++ (i ∷ [])) → CallHolds o (book_at_end o b T is) (tables_at_end T is) i
last_call o [] b T i h = h.0
last_call o (k ∷ is) b T i h = last_call o is (book_after o b T k) (tables_after T k) i h.1

-- ---- Question 1 of tables that hold a book

each_of : (bss : List (List Bool)) → every_of bss ≡ true → Each (λ (bs : List Bool). every bs ≡ true) bss
each_of [] h = tt
each_of (bs ∷ bss) h = let x = both (every bs) (every_of bss) h in (x.0, each_of bss x.1)

of_each_lem : (bss : List (List Bool)) → Each (λ (bs : List Bool). every bs ≡ true) bss → every_of bss ≡ true
of_each_lem [] h = refl
of_each_lem (bs ∷ bss) h = join (every bs) (every_of bss) h.0 (of_each_lem bss h.1)

some_entry : Entry
some_entry = record { from = 0; now = 0; kind = 0; class = 0; scope = 0; wire = []; tag = 0 }

module _ (o : Opening) (T : Tables) (s : Live) (h : Held o T s) where
  nine_each : Each (λ (bs : List Bool). every bs ≡ true) (nine_tests o.sizes T)
  nine_each =
      let a = each_of (setup_tests T ∷ lent_tests o.sizes T (accept some_entry true)) (yes1 o T s h (accept some_entry true)) in
      let f = each_of (setup_tests T ∷ lent_tests o.sizes T (flush 0 0)) (yes1 o T s h (flush 0 0)) in
      let b = a.1 in
      (b.0, (b.1.1.0, (b.1.1.1.0, (b.1.1.1.1.1.1.0, (b.1.1.1.1.1.1.1.0, (b.1.1.1.1.1.1.1.1.0, (b.1.1.1.1.1.1.1.1.1.0, (b.1.1.1.1.1.1.1.1.1.1.0, (f.1.1.1.1.1.1.0, tt)))))))))

  pub nine_held_lem : nine_held o.sizes T ≡ true
  unfolding nine_held
  nine_held_lem = of_each_lem (nine_tests o.sizes T) nine_each

  shelf_passed : (shelf : List ℕ) → length shelf ≡ names → all_of (λ v. leb v 1) shelf ≡ true → every (shelf_tests shelf) ≡ true
  shelf_passed shelf l e = each_every (shelf_tests shelf) (eq-eqb _ _ l, (e, tt))

  name_yes1 : (shelf : List ℕ) → length shelf ≡ names → all_of (λ v. leb v 1) shelf ≡ true → (a : NameCall) → name_question1 o.sizes T shelf a ≡ true
  name_yes1 shelf l e (keep n m) = of_each_lem (name_tests o.sizes T shelf (keep n m)) (h.fixed.setup, (shelf_passed shelf l e, nine_each))
  name_yes1 shelf l e (return n m) = of_each_lem (name_tests o.sizes T shelf (return n m)) (h.fixed.setup, (shelf_passed shelf l e, nine_each))
  name_yes1 shelf l e (give_up n) = of_each_lem (name_tests o.sizes T shelf (give_up n)) (h.fixed.setup, (shelf_passed shelf l e, tt))

  sizes_are : sizes_at T.setup ≡ o.sizes
  sizes_are = ap (λ (q : Opening). q.sizes) h.fixed.opening

-- ---- The questions on names

-- no number: the first answer is "yes", and no number of the others
first_yes : (n : ℕ) (b : Bool) (rest : ℕ) → (n ≡ 0 → ⊥) → cond b rest n ≡ 0 → (b ≡ true) × (rest ≡ 0)
first_yes n true rest z h = (refl, h)
first_yes n false rest z h = absurd (z h)

name_apart : (z : Sizes) (T : Tables) (kept : ℕ → Bool) (a : NameCall) → numbers_apart (asked_name z T kept a) ≡ true
name_apart z T kept (keep n m) = refl
name_apart z T kept (return n m) = refl
name_apart z T kept (give_up n) = refl

-- what an accepted call was told
keep_yes : (z : Sizes) (T : Tables) (kept : ℕ → Bool) (n : ℕ) (m : List ℕ) → first_no (asked_name z T kept (keep n m)) ≡ 0 → ltb n names ≡ true
keep_yes z T kept n m h = (first_yes 19 (ltb n names) _ (λ e. omega arith) h).0

return_yes : (z : Sizes) (T : Tables) (kept : ℕ → Bool) (n : ℕ) (m : List ℕ) → first_no (asked_name z T kept (return n m)) ≡ 0 → kept n ≡ true
return_yes z T kept n m h = (both (kept n) (roomy z m) (first_yes 20 (kept n && roomy z m) _ (λ e. omega arith) (first_yes 19 (ltb n names) _ (λ e. omega arith) h).1).0).0

give_up_yes : (z : Sizes) (T : Tables) (kept : ℕ → Bool) (n : ℕ) → first_no (asked_name z T kept (give_up n)) ≡ 0 → ltb n names ≡ true
give_up_yes z T kept n h = (first_yes 19 (ltb n names) _ (λ e. omega arith) h).0

-- ---- The two sides agree

module _ (x : Settings) (masks : List ℕ) (lent : Tables) (accepted : open_number x masks lent ≡ 0) where
  abbrev o : Opening
  o = opening_of x lent.names

  abbrev z : Sizes
  z = x.sizes

  abbrev T₀ : Tables
  T₀ = open_tables x masks lent

  held : (l : List Item) → AllAdmitted l → Bears o (tables_at_end T₀ l) (book_at_end o (opened o masks) T₀ l)
  held l a = end_held o l (opened o masks) T₀ (open_bears x masks lent accepted) a

  -- a name that keeps: the memory that its keeping left begins with the tables of the list that the book has for it
  abbrev Paired : Bool → Option (List Item) → List ℕ → Type 0
  Paired b none m = b ≡ false
  Paired b (some l) m = (b ≡ true) × AllAdmitted l × (take (need_words z) m ≡ stored (tables_at_end T₀ l))

  kept_is : (b : Bool) (k : Option (List Item)) (m : List ℕ) → Paired b k m → b ≡ is_some k
  kept_is b none m h = h
  kept_is b (some l) m h = h.0

  record Agree (t : Told) (p : Side) : Type 0 where
    tables : p.tables ≡ tables_at_end T₀ t.now
    admitted : AllAdmitted t.now
    long : length p.shelf ≡ names
    low : all_of (λ v. leb v 1) p.shelf ≡ true
    kept : (n : ℕ) → Paired (keeps p.shelf n) (t.kept n) (p.left n)

  own_held : (t : Told) (p : Side) → Agree t p → Bears o p.tables (book_of o masks T₀ t)
  own_held t p h = rw h.tables (held t.now h.admitted)

  -- a name's word anew
  low_set : (shelf : List ℕ) (n v : ℕ) → leb v 1 ≡ true → all_of (λ v. leb v 1) shelf ≡ true → all_of (λ v. leb v 1) (set shelf n v) ≡ true
  low_set shelf n v e h = each_all (λ v. leb v 1) (set shelf n v) (each_set (λ v. leb v 1 ≡ true) shelf n v (all_each (λ v. leb v 1) shelf h) e)

  keeps_set : (shelf : List ℕ) (n v : ℕ) → n < length shelf → (m : ℕ) → keeps (set shelf n v) m ≡ cond (eqb m n) (not (eqb v 0)) (keeps shelf m)
  keeps_set shelf n v l m = go (eqb m n) refl
    where
      go : (b : Bool) → eqb m n ≡ b → keeps (set shelf n v) m ≡ cond b (not (eqb v 0)) (keeps shelf m)
      go true e = ap (λ k. not (eqb (cell (set shelf n v) k) 0)) (eqb-true m n e) ∙ ap (λ k. not (eqb k 0)) (get_or-set_same shelf n v 0 l)
      go false e = ap (λ k. not (eqb k 0)) (get_or-set_other shelf n m v 0 (eqb-false m n e))

  agree_return : (t : Told) (p : Side) → Agree t p → (m : List ℕ) (b : Bool) (k : Option (List Item)) (w : List ℕ) → Paired b k w → b ≡ true → take (need_words z) m ≡ take (need_words z) w
      → (restored z m p.tables ≡ tables_at_end T₀ (or_else k t.now)) × AllAdmitted (or_else k t.now)
  agree_return t p h m b none w q e r = absurd (false≢true (sym q ∙ e))
  agree_return t p h m b (some l) w q e r =
      let f = (held l q.1).held.wrote.formed in
      let same = ap four_of h.tables ∙ same_end t.now T₀ ∙ sym (same_end l T₀) in
      (restore_back z (tables_at_end T₀ l) p.tables f same m (r ∙ q.2), q.1)

  abbrev AdmittedBy : Side → NameCall → Type 0
  AdmittedBy p (keep n m) = Unit {0}
  AdmittedBy p (return n m) = take (need_words z) m ≡ take (need_words z) (p.left n)
  AdmittedBy p (give_up n) = Unit {0}

  agree_name : (t : Told) (p : Side) (a : NameCall) → Agree t p → (n : ℕ) → n ≡ first_no (asked_name z p.tables (keeps p.shelf) a) → (n ≡ 0 → AdmittedBy p a) → Agree (told_name t a (is_number n)) (side_if (is_number n) z p a)
  agree_name t p a h (suc n) e q = h
  agree_name t p (keep k m) h zero e q =
      let l : k < length p.shelf = rw h.long (ltb-true k names (keep_yes z p.tables (keeps p.shelf) k m (sym e))) in
      record {
        tables = h.tables;
        admitted = h.admitted;
        long = length-set p.shelf k 1 ∙ h.long;
        low = low_set p.shelf k 1 refl h.low;
        kept = λ i. rw (keeps_set p.shelf k 1 l i) (go i (eqb i k));
      }
    where
      go : (i : ℕ) (b : Bool) → Paired (cond b true (keeps p.shelf i)) (cond b (some t.now) (t.kept i)) (cond b (stored p.tables ++ drop (need_words z) m) (p.left i))
      go i true = (refl, h.admitted, rw h.tables (take_stored z (tables_at_end T₀ t.now) (held t.now h.admitted).held.wrote.formed (drop (need_words z) m)))
      go i false = h.kept i
  agree_name t p (return k m) h zero e q =
      let r = agree_return t p h m (keeps p.shelf k) (t.kept k) (p.left k) (h.kept k) (return_yes z p.tables (keeps p.shelf) k m (sym e)) (q refl) in
      record { tables = r.0; admitted = r.1; long = h.long; low = h.low; kept = h.kept }
  agree_name t p (give_up k) h zero e q =
      let l : k < length p.shelf = rw h.long (ltb-true k names (give_up_yes z p.tables (keeps p.shelf) k (sym e))) in
      record {
        tables = h.tables;
        admitted = h.admitted;
        long = length-set p.shelf k 0 ∙ h.long;
        low = low_set p.shelf k 0 refl h.low;
        kept = λ i. rw (keeps_set p.shelf k 0 l i) (go i (eqb i k));
      }
    where
      go : (i : ℕ) (b : Bool) → Paired (cond b false (keeps p.shelf i)) (cond b none (t.kept i)) (p.left i)
      go i true = refl
      go i false = h.kept i

  -- the questions on names are answered alike from the shelf and from the book
  same_asked : (t : Told) (p : Side) (a : NameCall) → Agree t p → first_no (asked_name z p.tables (keeps p.shelf) a) ≡ first_no (asked_name z p.tables (λ k. is_some (t.kept k)) a)
  same_asked t p (keep k m) h = refl
  same_asked t p (return k m) h = rw (kept_is (keeps p.shelf k) (t.kept k) (p.left k) (h.kept k))
  same_asked t p (give_up k) h = rw (kept_is (keeps p.shelf k) (t.kept k) (p.left k) (h.kept k))

  number_by_lem : (t : Told) (p : Side) (a : NameCall) → Agree t p → number_by z p.tables p.shelf a ≡ first_no (asked_name z p.tables (keeps p.shelf) a)
  number_by_lem t p a h = let w = own_held t p h in rw (name_yes1 (by o w.draws) p.tables w.kept w.held p.shelf h.long h.low a)

  by_sizes : (t : Told) (p : Side) → Agree t p → sizes_at p.tables.setup ≡ z
  by_sizes t p h = let w = own_held t p h in sizes_are (by o w.draws) p.tables w.kept w.held

  admitted_by : (p : Side) (a : NameCall) → AdmittedName o p a → name_number p.tables p.shelf a ≡ 0 → AdmittedBy p a
  admitted_by p (keep k m) q e = tt
  admitted_by p (return k m) q e = q e
  admitted_by p (give_up k) q e = tt

  agree_after : (t : Told) (p : Side) (a : Act) → Agree t p → AdmittedAct o p a → Agree (told_after t p a) (side_after p a)
  agree_after t p (call i) h q = record {
    tables = ap (λ (T : Tables). tables_after T i) h.tables ∙ sym (tables_more t.now T₀ i);
    admitted = admitted_more t.now i h.admitted q;
    long = h.long;
    low = h.low;
    kept = h.kept;
  }
  agree_after t p (named a) h q =
      let e = by_sizes t p h in
      subst (λ (y : Sizes). Agree (told_name t a (is_number (number_by y p.tables p.shelf a))) (side_if (is_number (number_by y p.tables p.shelf a)) y p a)) (sym e)
      (agree_name t p a h (number_by z p.tables p.shelf a) (number_by_lem t p a h) (λ k. admitted_by p a q (ap (λ (y : Sizes). number_by y p.tables p.shelf a) e ∙ k)))
  agree_after t p (strangers X shelf a) h q = rw q h

  -- ---- What holds of each call

  only_no : (t : Told) (p : Side) (a : NameCall) (n : ℕ) → n ≡ first_no (asked_name z p.tables (λ k. is_some (t.kept k)) a) → OnlyNoName o t p a n
  only_no t p a zero h = tt
  only_no t p a (suc n) h = rw h (first_no_lem (asked_name z p.tables (λ k. is_some (t.kept k)) a) (name_apart z p.tables (λ k. is_some (t.kept k)) a) (λ e. omega arith))

  as_found : (T : Tables) (shelf : List ℕ) (a : NameCall) (r : Bool) → r ≡ true → (tables_if r (sizes_at T.setup) T a ≡ T) × (shelf_if r shelf a ≡ shelf) × (memory_if r (sizes_at T.setup) T a ≡ memory_of a)
  as_found T shelf a true h = (refl, refl, refl)
  as_found T shelf a false h = absurd (false≢true h)

  act_holds : (t : Told) (p : Side) (a : Act) → Agree t p → AdmittedAct o p a → ActHolds o masks T₀ t p a
  act_holds t p (call i) h q =
      rw h.tables (last_call o t.now (opened o masks) T₀ i (demand3 x masks lent accepted (t.now ++ (i ∷ [])) (admitted_more t.now i h.admitted q)).calls)
  act_holds t p (named a) h q =
      let e = ap (λ (y : Sizes). number_by y p.tables p.shelf a) (by_sizes t p h) ∙ number_by_lem t p a h ∙ same_asked t p a h in
      (e, only_no t p a (name_number p.tables p.shelf a) e, λ r. as_found p.tables p.shelf a (name_refused p.tables p.shelf a) r)
  act_holds t p (strangers X shelf a) h q = (q, λ r. as_found X shelf a (name_refused X shelf a) r)

  -- ---- Every list

  acts_hold : (acts : List Act) (t : Told) (p : Side) → Agree t p → AdmittedActs o p acts → ActsHold o masks T₀ t p acts
  acts_hold [] t p h q = tt
  acts_hold (a ∷ acts) t p h q = (act_holds t p a h q.0, acts_hold acts (told_after t p a) (side_after p a) (agree_after t p a h q.0) q.1)

  acts_end : (acts : List Act) (t : Told) (p : Side) → Agree t p → AdmittedActs o p acts → Agree (told_at_end t p acts) (side_at_end p acts)
  acts_end [] t p h q = h
  acts_end (a ∷ acts) t p h q = acts_end acts (told_after t p a) (side_after p a) (agree_after t p a h q.0) q.1

  none_kept : (n : ℕ) → keeps open_shelf n ≡ false
  none_kept n = ap (λ k. not (eqb k 0)) (zeros names n)
    where
      zeros : (k i : ℕ) → ◌≡◌ {A = ℕ} (get_or (replicate k 0) i 0) 0
      zeros zero i = refl
      zeros (suc k) zero = refl
      zeros (suc k) (suc i) = zeros k i

  begun : Agree nothing_told (open_side T₀)
  begun = record { tables = refl; admitted = tt; long = refl; low = refl; kept = none_kept }

  -- ---- THE THEOREM
  pub named_demand3 : (acts : List Act) → AdmittedActs o (open_side T₀) acts → NamedDemand3 x masks lent acts
  named_demand3 acts q =
      let e = acts_end acts nothing_told (open_side T₀) begun q in
      record {
        calls = acts_hold acts nothing_told (open_side T₀) begun q;
        same_tables = e.tables;
        demand3 = demand3 x masks lent accepted (told_at_end nothing_told (open_side T₀) acts).now e.admitted;
        same_names = λ n. kept_is (keeps (side_at_end (open_side T₀) acts).shelf n) ((told_at_end nothing_told (open_side T₀) acts).kept n) ((side_at_end (open_side T₀) acts).left n) (e.kept n);
      }

  -- the same calls from there, none on names, bring the same replies: two lists of acts with the same list standing leave the same tables
  pub same_from_there : (as₁ as₂ : List Act) → AdmittedActs o (open_side T₀) as₁ → AdmittedActs o (open_side T₀) as₂
      → (told_at_end nothing_told (open_side T₀) as₁).now ≡ (told_at_end nothing_told (open_side T₀) as₂).now
      → (side_at_end (open_side T₀) as₁).tables ≡ (side_at_end (open_side T₀) as₂).tables
  same_from_there as₁ as₂ p q e =
      (acts_end as₁ nothing_told (open_side T₀) begun p).tables ∙ ap (tables_at_end T₀) e ∙ sym (acts_end as₂ nothing_told (open_side T₀) begun q).tables
