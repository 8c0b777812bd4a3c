-- M-113's theorems: demand 3 for each chain of a bench, and what the others cannot do to a chain inside its share.
use mathlib.Core.Path.{◌≡◌, refl, sym, ap, ◌∙◌, subst}
use Prim.Native.Nat.{ℕ, zero, suc, ◌-◌, ◌≤◌, ◌<◌}
use native.Mathlib.Omega.{arith}
use native.Mathlib.Nat.{le_refl}
use mathlib.Core.Bool.{Bool, true, false, cond}
use mathlib.Core.List.{List, [], ◌∷◌}
use lib.Dec.{eqb, leb}
use lib.ListN.{length}
use borrow.Author.Tests.{eqb-true, eq-eqb, leb-true}
use Rattle.table_rows.specs.Rows.{all_of}
use Rattle.table_rows.specs.Lists.{Each, up_to}
use Rattle.table_rows.proofs.Rows.{length_rows}
use Rattle.table_waiting.specs.Waiting as waiting
use Rattle.spec_network.specs.Lists.{every, below, within}
use Rattle.spec_network.specs.Opening.{Opening}
use Rattle.spec_network.specs.Layout.{plain}
use Rattle.spec_network.specs.Live.{Live, LiveBy}
use Rattle.spec_network.specs.Questions.{Asked, Room, alone, pooled}
use Rattle.spec_network.specs.Tables.{cell, Tables, waiting_at}
use Rattle.spec_network.specs.Limits.{range_tests}
use Rattle.spec_network.specs.Real.{opening_of}
use Rattle.spec_network.specs.Open.{lent_tests, limit_tests, open_number, open_tables}
use Rattle.spec_network.specs.Writes.{is_number, number_in}
use Rattle.spec_book.specs.Book.{Book, book_step}
use Rattle.spec_book.specs.Demand3.{Item, own, others, reopen, Admitted, AllAdmitted, reply_to, replies_to, tables_after, tables_at_end, book_after, CallHolds}
use Rattle.spec_book.proofs.Each.{all_each, every_each, both}
use Rattle.spec_book.proofs.Held.{Held}
use Rattle.spec_book.proofs.Drawing.{by}
use Rattle.spec_book.proofs.Asking.{all_yes}
use Rattle.spec_book.proofs.Final.{Bears, number_is, held_after, call_holds, open_bears, demand3}
use Rattle.spec_chains.specs.Pool.{sum_below, others_below, takes, Bench, limit, free_for, most_chains, pool_tests, asked_bench, bench_number, chain_opening, chain_opened}
use Rattle.spec_chains.specs.Chains.{Act, placed, counted, in_books, room_for, item_of, tables_next, books_next, tables_last, books_last, list_of, own_list, replies_of, AdmittedActs, ActHolds, ActsHold, opened_books, BenchHolds, Inside, AllInside}
use Rattle.spec_chains.proofs.Sums.{one_and_others, others_same, others_each, sum_each}
use Rattle.spec_chains.proofs.Rooms.{item_alone, book_few}

-- a bench whose chains are opened, with shares inside limits and pool
pub record Opened (B : Bench) : Type 0 where
  pub chain : (i : ℕ) → i < B.chains → open_number (B.settings i) (B.masks i) (B.lent i) ≡ 0
  pub shares : sum_below B.chains B.share ≤ B.slots
  pub limits : (i : ℕ) → i < B.chains → B.share i ≤ limit B i
  pub few : B.chains ≤ most_chains

-- the counts of the tables are the books'
pub held_count : (o : Opening) (T : Tables) (s : Live) → Held o T s → cell T.net waiting_at ≡ length s.queue.waiting
held_count o T s h = sym (length_rows (waiting.form).width (waiting.form).read (cell T.net waiting_at) T.waiting) ∙ ap (λ (q : Live). length q.queue.waiting) h.wrote.holds

pub waiting_count : (o : Opening) (T : Tables) (b : Book) → Bears o T b → cell T.net waiting_at ≡ length b.live.queue.waiting
waiting_count o T b h = held_count (by o h.draws) T h.kept h.held ∙ ap (λ (q : LiveBy plain). length q.queue.waiting) h.same

pub admitted_placed : (room : Room) (i : Item) → Admitted i → Admitted (placed room i)
admitted_placed room (own r c) a = tt
admitted_placed room (others X c) a = a
admitted_placed room (reopen X y ms) a = a

-- one call of a chain leaves its copies within what it had, or found room for
pub item_few : (o : Opening) (T : Tables) (b : Book) → Bears o T b → (free most : ℕ) (i : Item) → Admitted i → length b.live.queue.waiting ≤ most → free ≤ most → length (book_after o b T (placed (pooled free) i)).live.queue.waiting ≤ most
item_few o T b h free most (own r c) a w f =
    subst (λ (q : Opening). length (book_step o b c (is_number (number_in q (pooled free) T c))).live.queue.waiting ≤ most) (sym h.held.fixed.opening)
    (book_few o free most b c (number_in (by o h.draws) (pooled free) T c) (number_is o (pooled free) T b h c) w f)
item_few o T b h free most (others X c) a w f = rw a w
item_few o T b h free most (reopen X y ms) a w f = w

module _ (B : Bench) (ok : Opened B) where
  abbrev pub k : ℕ
  k = B.chains

  taken : (ℕ → Book) → ℕ → ℕ
  taken b j = takes (B.share j) (in_books b j)

  pub record Inv (T : ℕ → Tables) (b : ℕ → Book) : Type 0 where
    pub held : (i : ℕ) → i < k → Bears (chain_opening B i) (T i) (b i)
    pub sum : sum_below k (λ j. takes (B.share j) (in_books b j)) ≤ B.slots

  -- the room that the tables tell is the one that the books tell
  same_free : (T : ℕ → Tables) (b : ℕ → Book) → Inv T b → (i : ℕ) → free_for B (counted T) i ≡ free_for B (in_books b) i
  same_free T b v i =
      ap (λ (n : ℕ). B.slots - n)
      (others_each k i (λ j. takes (B.share j) (counted T j)) (λ j. takes (B.share j) (in_books b j)) (λ j l. ap (takes (B.share j)) (waiting_count (chain_opening B j) (T j) (b j) (v.held j l))))

  -- THE SHARE IS THERE: what the pool leaves to a chain is never less than its share
  pub share_free : (T : ℕ → Tables) (b : ℕ → Book) → Inv T b → (i : ℕ) → i < k → B.share i ≤ free_for B (counted T) i
  share_free T b v i l =
      rw (same_free T b v i)
      (omega (arith, v.sum, one_and_others k i (λ j. takes (B.share j) (in_books b j)) l))

  -- ---- One call more

  module _ (T : ℕ → Tables) (b : ℕ → Book) (v : Inv T b) (a : Act) (l : a.chain < k) (p : Admitted a.item) where
    abbrev i : ℕ
    i = a.chain

    abbrev o : Opening
    o = chain_opening B i

    abbrev it : Item
    it = item_of B T a

    held_own : Bears o (tables_after (T i) it) (book_after o (b i) (T i) it)
    held_own = held_after o (b i) (T i) it (v.held i l) (admitted_placed (room_for B T a) a.item p)

    held_next : (j : ℕ) → j < k → Bears (chain_opening B j) (tables_next B T a j) (books_next B b T a j)
    held_next j m = go (eqb j i) refl
      where
        go : (q : Bool) → eqb j i ≡ q → Bears (chain_opening B j) (cond q (tables_after (T i) it) (T j)) (cond q (book_after o (b i) (T i) it) (b j))
        go true e = subst (λ (n : ℕ). Bears (chain_opening B n) (tables_after (T i) it) (book_after o (b i) (T i) it)) (sym (eqb-true j i e)) held_own
        go false e = v.held j m

    abbrev rest : ℕ
    rest = others_below k i (λ j. takes (B.share j) (in_books b j))

    few : length (book_after o (b i) (T i) it).live.queue.waiting ≤ B.slots - rest
    few =
        item_few o (T i) (b i) (v.held i l) (free_for B (counted T) i) (B.slots - rest) a.item p
        (omega (arith, v.sum, one_and_others k i (λ j. takes (B.share j) (in_books b j)) l))
        (rw (same_free T b v i) (le_refl _))

    same_rest : others_below k i (λ j. takes (B.share j) (in_books (books_next B b T a) j)) ≡ rest
    same_rest = others_same k i (λ j. takes (B.share j) (in_books (books_next B b T a) j)) (λ j. takes (B.share j) (in_books b j)) (λ j e. rw e)

    own_now : in_books (books_next B b T a) i ≡ length (book_after o (b i) (T i) it).live.queue.waiting
    own_now = rw (eq-eqb i i refl)

    sum_next : sum_below k (λ j. takes (B.share j) (in_books (books_next B b T a) j)) ≤ B.slots
    sum_next =
        let n = one_and_others k i (λ j. takes (B.share j) (in_books (books_next B b T a) j)) l in
        let t = ap (takes (B.share i)) own_now in
        omega (arith, n, t, same_rest, few, v.sum, one_and_others k i (λ j. takes (B.share j) (in_books b j)) l)

    next : Inv (tables_next B T a) (books_next B b T a)
    next = record { held = held_next; sum = sum_next }

    act_holds : ActHolds B b T a
    act_holds = (
      subst (λ (n : ℕ). CallHolds o (b i) (T i) (placed (pooled n) a.item)) (same_free T b v i) (call_holds o (b i) (T i) it (v.held i l) (admitted_placed (room_for B T a) a.item p)),
      same_free T b v i,
    )

  -- ---- Every list

  acts_hold : (acts : List Act) (T : ℕ → Tables) (b : ℕ → Book) → Inv T b → AdmittedActs B acts → ActsHold B b T acts
  acts_hold [] T b v q = tt
  acts_hold (a ∷ acts) T b v q = (act_holds T b v a q.0 q.1, acts_hold acts (tables_next B T a) (books_next B b T a) (next T b v a q.0 q.1) q.2)

  last_inv : (acts : List Act) (T : ℕ → Tables) (b : ℕ → Book) → Inv T b → AdmittedActs B acts → Inv (tables_last B T acts) (books_last B b T acts)
  last_inv [] T b v q = v
  last_inv (a ∷ acts) T b v q = last_inv acts (tables_next B T a) (books_next B b T a) (next T b v a q.0 q.1) q.2

  -- a chain's tables are those of its own list
  own_tables : (i : ℕ) (acts : List Act) (T : ℕ → Tables) → tables_last B T acts i ≡ tables_at_end (T i) (list_of B i T acts)
  own_tables i [] T = refl
  own_tables i (a ∷ acts) T = own_tables i acts (tables_next B T a) ∙ go (eqb i a.chain) refl
    where
      go : (q : Bool) → eqb i a.chain ≡ q
          → tables_at_end (cond q (tables_after (T a.chain) (item_of B T a)) (T i)) (list_of B i (tables_next B T a) acts) ≡ tables_at_end (T i) (cond q (item_of B T a ∷ list_of B i (tables_next B T a) acts) (list_of B i (tables_next B T a) acts))
      go true e = ap (λ (n : ℕ). tables_at_end (tables_after (T n) (item_of B T a)) (list_of B i (tables_next B T a) acts)) (sym (eqb-true i a.chain e))
      go false e = refl

  own_admitted : (i : ℕ) (acts : List Act) (T : ℕ → Tables) → AdmittedActs B acts → AllAdmitted (list_of B i T acts)
  own_admitted i [] T q = tt
  own_admitted i (a ∷ acts) T q = go (eqb i a.chain) (own_admitted i acts (tables_next B T a) q.2)
    where
      go : (b : Bool) → AllAdmitted (list_of B i (tables_next B T a) acts) → AllAdmitted (cond b (item_of B T a ∷ list_of B i (tables_next B T a) acts) (list_of B i (tables_next B T a) acts))
      go true h = (admitted_placed (room_for B T a) a.item q.1, h)
      go false h = h

  shares_only : (j : ℕ) → j < k → B.share j ≡ takes (B.share j) (in_books (opened_books B) j)
  shares_only j l = omega arith

  pub shares_sum : sum_below k (λ j. takes (B.share j) (in_books (opened_books B) j)) ≤ B.slots
  shares_sum = rw (← sum_each k B.share (λ j. takes (B.share j) (in_books (opened_books B) j)) shares_only) ok.shares

  begun : Inv (chain_opened B) (opened_books B)
  begun = record {
    held = λ i l. open_bears (B.settings i) (B.masks i) (B.lent i) (ok.chain i l);
    sum = shares_sum;
  }

  -- ---- THE THEOREM: demand 3 for each chain, over its own list
  pub bench_holds : (acts : List Act) → AdmittedActs B acts → BenchHolds B acts
  bench_holds acts q = record {
    calls = acts_hold acts (chain_opened B) (opened_books B) begun q;
    own_tables = λ i. own_tables i acts (chain_opened B);
    demand3 = λ i l. demand3 (B.settings i) (B.masks i) (B.lent i) (ok.chain i l) (list_of B i (chain_opened B) acts) (own_admitted i acts (chain_opened B) q);
    within_pool = (last_inv acts (chain_opened B) (opened_books B) begun q).sum;
  }

  -- ---- (b) Inside its share a chain's replies and tables depend on its own calls alone

  module _ (i : ℕ) (l : i < k) where
    inside_step : (acts : List Act) (T : ℕ → Tables) (b : ℕ → Book) → Inv T b → AdmittedActs B acts → AllInside (chain_opening B i) (B.share i) (T i) (own_list B i acts)
        → (replies_of B i T acts ≡ replies_to (T i) (own_list B i acts)) × (tables_last B T acts i ≡ tables_at_end (T i) (own_list B i acts))
    inside_step [] T b v q h = (refl, refl)
    inside_step (a ∷ acts) T b v q h = go (eqb i a.chain) refl h (inside_step acts (tables_next B T a) (books_next B b T a) (next T b v a q.0 q.1) q.2)
      where
        go : (c : Bool) → eqb i a.chain ≡ c → AllInside (chain_opening B i) (B.share i) (T i) (cond c (placed alone a.item ∷ own_list B i acts) (own_list B i acts))
            → (AllInside (chain_opening B i) (B.share i) ((tables_next B T a) i) (own_list B i acts) → (replies_of B i (tables_next B T a) acts ≡ replies_to ((tables_next B T a) i) (own_list B i acts)) × (tables_last B (tables_next B T a) acts i ≡ tables_at_end ((tables_next B T a) i) (own_list B i acts)))
            → (cond c (reply_to (T a.chain) (item_of B T a) ∷ replies_of B i (tables_next B T a) acts) (replies_of B i (tables_next B T a) acts) ≡ replies_to (T i) (cond c (placed alone a.item ∷ own_list B i acts) (own_list B i acts)))
            × (tables_last B (tables_next B T a) acts i ≡ tables_at_end (T i) (cond c (placed alone a.item ∷ own_list B i acts) (own_list B i acts)))
        go true e h r =
            let p = sym (eqb-true i a.chain e) in
            let x = item_alone (chain_opening B i) (B.share i) (free_for B (counted T) i) (ok.limits i l) (share_free T b v i l) (T i) (b i) (v.held i l) a.item h.0 in
            let reply : reply_to (T a.chain) (item_of B T a) ≡ reply_to (T i) (placed alone a.item) = ap (λ (n : ℕ). reply_to (T n) (placed (pooled (free_for B (counted T) n)) a.item)) p ∙ x.0 in
            let tables : tables_next B T a i ≡ tables_after (T i) (placed alone a.item) =
            ap (λ (c : Bool). cond c (tables_after (T a.chain) (item_of B T a)) (T i)) e ∙ ap (λ (n : ℕ). tables_after (T n) (placed (pooled (free_for B (counted T) n)) a.item)) p ∙ x.1 in
            let y = subst (λ (W : Tables). AllInside (chain_opening B i) (B.share i) W (own_list B i acts) → (replies_of B i (tables_next B T a) acts ≡ replies_to W (own_list B i acts)) × (tables_last B (tables_next B T a) acts i ≡ tables_at_end W (own_list B i acts))) tables r h.1 in
            ((λ j. reply j ∷ y.0 j), y.1)
        go false e h r =
            let tables : tables_next B T a i ≡ T i = ap (λ (c : Bool). cond c (tables_after (T a.chain) (item_of B T a)) (T i)) e in
            subst (λ (W : Tables). AllInside (chain_opening B i) (B.share i) W (own_list B i acts) → (replies_of B i (tables_next B T a) acts ≡ replies_to W (own_list B i acts)) × (tables_last B (tables_next B T a) acts i ≡ tables_at_end W (own_list B i acts))) tables r h

    -- (a) NO DOINGS OF THE OTHERS get it refused: after whatever calls of all chains, a call inside its share is answered as by a network by itself, whose question 11 is then answered "yes"
    pub not_by_others : (acts : List Act) → AdmittedActs B acts → (it : Item) → Inside (chain_opening B i) (B.share i) (tables_last B (chain_opened B) acts i) (placed alone it)
        → reply_to (tables_last B (chain_opened B) acts i) (placed (pooled (free_for B (counted (tables_last B (chain_opened B) acts)) i)) it) ≡ reply_to (tables_last B (chain_opened B) acts i) (placed alone it)
    not_by_others acts q it h =
        let T = tables_last B (chain_opened B) acts in
        let b = books_last B (opened_books B) (chain_opened B) acts in
        let v = last_inv acts (chain_opened B) (opened_books B) begun q in
        (item_alone (chain_opening B i) (B.share i) (free_for B (counted T) i) (ok.limits i l) (share_free T b v i l) (T i) (b i) (v.held i l) it h).0

    -- NON-INTERFERENCE: its replies, rows among them, and its tables are those of a network by itself that is sent its own calls
    pub inside_alone : (acts : List Act) → AdmittedActs B acts → AllInside (chain_opening B i) (B.share i) (chain_opened B i) (own_list B i acts)
        → (replies_of B i (chain_opened B) acts ≡ replies_to (chain_opened B i) (own_list B i acts)) × (tables_last B (chain_opened B) acts i ≡ tables_at_end (chain_opened B i) (own_list B i acts))
    inside_alone acts q h = inside_step acts (chain_opened B) (opened_books B) begun q h

-- the same, of two benches: other pools, other chains, other calls of these; the chain has one opening, one share and one list of calls
pub two_runs : (B C : Bench) → Opened B → Opened C → (i : ℕ) → i < B.chains → i < C.chains
    → B.settings i ≡ C.settings i → B.masks i ≡ C.masks i → B.lent i ≡ C.lent i → B.share i ≡ C.share i
    → (as₁ as₂ : List Act) → AdmittedActs B as₁ → AdmittedActs C as₂ → own_list B i as₁ ≡ own_list C i as₂
    → AllInside (chain_opening B i) (B.share i) (chain_opened B i) (own_list B i as₁)
    → replies_of B i (chain_opened B) as₁ ≡ replies_of C i (chain_opened C) as₂
two_runs B C p q i l m e f g s as₁ as₂ a c same h =
    let n : chain_opening B i ≡ chain_opening C i = (λ j. opening_of (e j) (g j).names) in
    let t : chain_opened B i ≡ chain_opened C i = (λ j. open_tables (e j) (f j) (g j)) in
    let h' : AllInside (chain_opening C i) (C.share i) (chain_opened C i) (own_list C i as₂) = subst (λ (w : Type 0). w) (λ j. AllInside (n j) (s j) (t j) (same j)) h in
    (inside_alone B p i l as₁ a h).0 ∙ (λ j. replies_to (t j) (same j)) ∙ sym (inside_alone C q i m as₂ c h').0

-- ---- An accepted opening of the bench opens every chain, with shares inside limits and pool

each_below : (P : ℕ → Type 0) (n : ℕ) (f : ℕ → ℕ) → Each P (up_to n f) → (i : ℕ) → i < n → P (f i)
each_below P zero f h i l = absurd (omega arith)
each_below P (suc n) f h zero l = h.0
each_below P (suc n) f h (suc i) l = each_below P n (λ j. f (suc j)) h.1 i (omega arith)

module _ (B : Bench) (accepted : bench_number B ≡ 0) where
  yes : Each (λ (q : Asked). q.yes ≡ true) (asked_bench B)
  yes = all_yes (asked_bench B) refl accepted

  of_chain_lem : (test : ℕ → Bool) → all_of test (below B.chains) ≡ true → (i : ℕ) → i < B.chains → test i ≡ true
  of_chain_lem test h i l = each_below (λ j. test j ≡ true) B.chains (λ j. j) (all_each test (below B.chains) h) i l

  chain_opened_lem : (i : ℕ) → i < B.chains → open_number (B.settings i) (B.masks i) (B.lent i) ≡ 0
  chain_opened_lem i l =
      let a = of_chain_lem (λ j. every (lent_tests (B.settings j) (B.masks j) (B.lent j))) yes.0 i l in
      let b = of_chain_lem (λ j. every (limit_tests (B.settings j) (B.masks j) (B.lent j))) yes.1.0 i l in
      let c = of_chain_lem (λ j. every (range_tests (B.settings j).config)) yes.1.1.1.0 i l in
      let d = of_chain_lem (λ j. every (all_of (λ m. within m (B.settings j).sizes.shards) (B.masks j) ∷ [])) yes.1.1.1.1.0 i l in
      number_0 (every (lent_tests (B.settings i) (B.masks i) (B.lent i))) (every (limit_tests (B.settings i) (B.masks i) (B.lent i))) (every (range_tests (B.settings i).config)) (all_of (λ m. within m (B.settings i).sizes.shards) (B.masks i)) a b c (both (all_of (λ m. within m (B.settings i).sizes.shards) (B.masks i)) true d).0
    where
      number_0 : (a b c d : Bool) → a ≡ true → b ≡ true → c ≡ true → d ≡ true → ◌≡◌ {A = ℕ} (cond a (cond b (cond c (cond d 0 5) 3) 2) 1) 0
      number_0 a b c d p q r s = rw (p, q, r, s)

  pub opened_bench : Opened B
  opened_bench =
      let t = every_each (pool_tests B) yes.1.1.0 in
      record {
        chain = chain_opened_lem;
        few = leb-true B.chains most_chains t.1.0;
        shares = leb-true (sum_below B.chains B.share) B.slots t.1.1.1.1.0;
        limits = λ i l. leb-true (B.share i) (limit B i) (of_chain_lem (λ j. leb (B.share j) (limit B j)) t.1.1.1.1.1.0 i l);
      }
