-- The pool as lent memory: each chain finds there its book's waiting copies.
use mathlib.Core.Path.{◌≡◌, refl, sym, ap, ◌∙◌, subst}
use Prim.Native.Nat.{ℕ, zero, suc, ◌-◌, ◌*◌, ◌≤◌, ◌<◌}
use native.Mathlib.Omega.{arith}
use native.Mathlib.Nat.{le_refl, mul-le-mul_right}
use mathlib.Core.Bool.{Bool, true, false, cond}
use mathlib.Core.List.{List, [], ◌∷◌, ◌++◌, append_assoc}
use lib.Dec.{eqb}
use lib.ListN.{length, drop, replicate, length-append, length-replicate, length-set}
use lib.Seq.{get_or-set_same, get_or-set_other}
use borrow.Author.Tests.{eqb-true, eqb-false, eq-eqb, lt-ltb}
use Rattle.table_rows.specs.Rows.{flat}
use Rattle.table_rows.specs.Table.{rows_of, over}
use Rattle.table_rows.proofs.Rows.{length_rows, flat_append, rows_flat}
use Rattle.table_rows.proofs.Table.{rows_over, length_over, length_words}
use Rattle.table_waiting.specs.Waiting as waiting
use Rattle.table_waiting.specs.declared.Copy.{Copy}
use Rattle.table_waiting.proofs.Reading.{exact}
use Rattle.spec_network.specs.Opening.{Opening}
use Rattle.spec_network.specs.Layout.{plain}
use Rattle.spec_network.specs.Live.{Live, LiveBy, plainly}
use Rattle.spec_network.specs.Questions.{Room, alone, pooled, first_no, asked_in}
use Rattle.spec_network.specs.Calls.{Call, Answer}
use Rattle.spec_network.specs.Tables.{cell, Tables, waiting_at}
use Rattle.spec_network.specs.Writes.{Reply, is_number, answer_t, room_reply, set_waiting}
use Rattle.spec_book.specs.Book.{Book, book_step, expected}
use Rattle.spec_book.specs.Demand3.{Item, own, others, reopen, Admitted, reply_to, replies_to, tables_after, book_after, CallHolds}
use Rattle.spec_book.proofs.Formed.{formed_waiting}
use Rattle.spec_book.proofs.Sound.{SoundBook, opened_sound}
use Rattle.spec_book.proofs.Held.{Held}
use Rattle.spec_book.proofs.Drawing.{by}
use Rattle.spec_book.proofs.Final.{Bears, reply_is, number_is, answer_is, held_after, call_holds, book_holds, open_bears}
use Rattle.spec_chains.specs.Pool.{sum_below, others_below, takes, Bench, limit, free_for, most_chains, chain_opening, chain_opened}
use Rattle.spec_chains.specs.Chains.{placed, put, in_books, opened_books, Inside, AllInside}
use Rattle.spec_chains.specs.Slots.{ledger_width, share_at, count_at, counts, free_in, of_chain, open_ledger, own_moves, pool_replies, joined, copies_in, Stand, Move, pool_of, brought, item_here, worked, stand_next, books_along, stand_last, books_then, AdmittedMoves, MoveHolds, MovesHold, open_stand, PoolHolds}
use Rattle.spec_chains.proofs.Sums.{one_and_others, others_same, others_each, sum_each}
use Rattle.spec_chains.proofs.Rooms.{item_alone}
use Rattle.spec_chains.proofs.Chains.{Opened, admitted_placed, item_few, held_count, waiting_count, shares_sum}

-- ---- The rows of the chains, one behind the other

length_joined : (k : ℕ) (f : ℕ → List Copy) → length (joined k f) ≡ sum_below k (λ j. length (f j))
length_joined zero f = refl
length_joined (suc k) f = length-append (joined k f) (f k) ∙ omega (arith, length_joined k f)

drop_exact : (a b : List ℕ) (n : ℕ) → length a ≡ n → drop n (a ++ b) ≡ b
drop_exact [] b n h = rw (← h)
drop_exact (x ∷ a) b n h = rw (← h) (drop_exact a b (length a) refl)

-- a chain's copies are found behind those of the chains before it
in_joined : (k i : ℕ) (f : ℕ → List Copy) (m : List ℕ) → i < k
    → rows_of waiting.form (drop (sum_below i (λ j. length (f j)) * waiting.width) (flat waiting.words (joined k f) ++ m)) (length (f i)) ≡ f i
in_joined zero i f m h = absurd (omega arith)
in_joined (suc k) i f m h =
    ap (λ (l : List ℕ). rows_of waiting.form (drop (sum_below i (λ j. length (f j)) * waiting.width) l) (length (f i))) split
    ∙ go (eqb i k) refl (λ l. in_joined k i f (flat waiting.words (f k) ++ m) l)
  where
    split : flat waiting.words (joined k f ++ f k) ++ m ≡ flat waiting.words (joined k f) ++ (flat waiting.words (f k) ++ m)
    split = ap (λ (l : List ℕ). l ++ m) (flat_append waiting.width waiting.read waiting.words (λ c. true) exact.long exact.back (joined k f) (f k)) ∙ append_assoc (flat waiting.words (joined k f)) (flat waiting.words (f k)) m

    long : length (flat waiting.words (joined k f)) ≡ sum_below k (λ j. length (f j)) * waiting.width
    long = length_words waiting.form exact (joined k f) ∙ ap (λ (n : ℕ). n * waiting.width) (length_joined k f)

    go : (b : Bool) → eqb i k ≡ b
        → (i < k → rows_of waiting.form (drop (sum_below i (λ j. length (f j)) * waiting.width) (flat waiting.words (joined k f) ++ (flat waiting.words (f k) ++ m))) (length (f i)) ≡ f i)
        → rows_of waiting.form (drop (sum_below i (λ j. length (f j)) * waiting.width) (flat waiting.words (joined k f) ++ (flat waiting.words (f k) ++ m))) (length (f i)) ≡ f i
    go true e r =
        subst (λ (n : ℕ). rows_of waiting.form (drop (sum_below n (λ j. length (f j)) * waiting.width) (flat waiting.words (joined k f) ++ (flat waiting.words (f k) ++ m))) (length (f n)) ≡ f n) (sym (eqb-true i k e))
        (ap (λ (l : List ℕ). rows_of waiting.form l (length (f k))) (drop_exact (flat waiting.words (joined k f)) (flat waiting.words (f k) ++ m) _ long)
        ∙ rows_flat waiting.width waiting.read waiting.words (λ c. true) exact.long exact.back (f k) m)
    go false e r = let n = eqb-false i k e in r (omega (arith, n, h))

-- what goes into the pool is found there
pub put_back : (k : ℕ) (f : ℕ → List Copy) (counts : ℕ → ℕ) → ((j : ℕ) → j < k → counts j ≡ length (f j)) → (ws : List ℕ) (i : ℕ) → i < k → copies_in (over waiting.form (joined k f) ws) counts i ≡ f i
unfolding copies_in over
put_back k f counts h ws i l =
    ap (λ (n : ℕ). rows_of waiting.form (drop (n * waiting.width) (flat waiting.words (joined k f) ++ drop (length (joined k f) * waiting.width) ws)) (counts i)) (sum_each i counts (λ j. length (f j)) (λ j q. h j (omega arith)))
    ∙ ap (rows_of waiting.form (drop (sum_below i (λ j. length (f j)) * waiting.width) (flat waiting.words (joined k f) ++ drop (length (joined k f) * waiting.width) ws))) (h i l)
    ∙ in_joined k i f (drop (length (joined k f) * waiting.width) ws) l

-- ---- Copies brought into another table

pub held_brought : (o : Opening) (T : Tables) (s : Live) → Held o T s → (work : List ℕ) → length work ≡ o.sizes.wait_slots * waiting.width → Held o (set_waiting T (over waiting.form s.queue.waiting work)) s
held_brought o T s h work e = record {
  fixed = h.fixed;
  wrote = record {
    formed = formed_waiting o.sizes T h.wrote.formed (over waiting.form s.queue.waiting work)
        (length_over waiting.form exact s.queue.waiting work (rw e (mul-le-mul_right waiting.width h.fits.queue.few)) ∙ e);
    holds = (λ j. with_rows (h.wrote.holds j) (rows j));
  };
  fits = h.fits;
}
  where
    with_rows : Live → List Copy → Live
    with_rows q w = record { tills = q.tills; seen = q.seen; engine = q.engine; rings = q.rings; words = q.words; queue = record { sequence = q.queue.sequence; waiting = w }; log = q.log }

    rows : rows_of waiting.form (over waiting.form s.queue.waiting work) (cell T.net waiting_at) ≡ s.queue.waiting
    rows = ap (rows_of waiting.form (over waiting.form s.queue.waiting work)) (held_count o T s h) ∙ rows_over waiting.form exact s.queue.waiting work

pub bears_brought : (o : Opening) (T : Tables) (b : Book) → Bears o T b → (work : List ℕ) → length work ≡ o.sizes.wait_slots * waiting.width → Bears o (set_waiting T (over waiting.form b.live.queue.waiting work)) b
bears_brought o T b h work e = record {
  draws = h.draws;
  agree = h.agree;
  kept = h.kept;
  held = subst (λ (q : LiveBy plain). Held (by o h.draws) (set_waiting T (over waiting.form q.queue.waiting work)) h.kept) h.same (held_brought (by o h.draws) T h.kept h.held work e);
  same = h.same;
  sound = h.sound;
  limits = h.limits;
}

-- ---- The bench

module _ (B : Bench) (ok : Opened B) where
  abbrev n : ℕ
  n = B.chains

  -- the ledger tells the bench's numbers, and the copies of the books
  record Told (ledger : List ℕ) (b : ℕ → Book) : Type 0 where
    long : length ledger ≡ ledger_width
    chains : cell ledger 0 ≡ n
    slots : cell ledger 1 ≡ B.slots
    share : (i : ℕ) → i < n → cell ledger (share_at i) ≡ B.share i
    count : (i : ℕ) → i < n → counts ledger i ≡ in_books b i

  -- each chain's tables hold its book, whatever table they are brought into; and the pool is not passed
  record Inv (S : Stand) (b : ℕ → Book) : Type 0 where
    held : (i : ℕ) → i < n → (work : List ℕ) → length work ≡ limit B i * waiting.width → Bears (chain_opening B i) (brought S i work) (b i)
    told : Told S.ledger b
    sound : (i : ℕ) → SoundBook (chain_opening B i) (b i)
    sum : sum_below n (λ j. takes (B.share j) (in_books b j)) ≤ B.slots

  -- a table of the limit's size: there is one
  abbrev blank : ℕ → List ℕ
  blank i = replicate (limit B i * waiting.width) 0

  -- a chain's copies in the pool are its book's
  copies_are : (S : Stand) (b : ℕ → Book) → Inv S b → (i : ℕ) → i < n → pool_of S i ≡ (b i).live.queue.waiting
  unfolding copies_in
  copies_are S b v i l =
      let h = v.held i l (blank i) (length-replicate (limit B i * waiting.width) 0) in
      let e : length (pool_of S i) ≡ counts S.ledger i = length_rows waiting.width waiting.read (counts S.ledger i) (drop (sum_below i (counts S.ledger) * waiting.width) S.pool) in
      let c : counts S.ledger i ≡ cell (S.tables i).net waiting_at = v.told.count i l ∙ sym (waiting_count (chain_opening B i) (brought S i (blank i)) (b i) h) in
      sym (rows_over waiting.form exact (pool_of S i) (blank i))
      ∙ ap (rows_of waiting.form (over waiting.form (pool_of S i) (blank i))) (e ∙ c)
      ∙ ap (λ (q : Live). q.queue.waiting) h.held.wrote.holds ∙ ap (λ (q : LiveBy plain). q.queue.waiting) h.same

  same_free : (S : Stand) (b : ℕ → Book) → Inv S b → (i : ℕ) → free_in S.ledger i ≡ free_for B (in_books b) i
  same_free S b v i =
      let t = v.told in
      (λ j. t.slots j - others_below (t.chains j) i (λ k. takes (cell S.ledger (share_at k)) (counts S.ledger k)))
      ∙ ap (λ (m : ℕ). B.slots - m)
      (others_each n i (λ j. takes (cell S.ledger (share_at j)) (counts S.ledger j)) (λ j. takes (B.share j) (in_books b j)) (λ j l. (λ q. takes (t.share j l q) (t.count j l q))))

  module _ (S : Stand) (b : ℕ → Book) (v : Inv S b) (m : Move) (l : m.chain < n) (p : Admitted m.item) (w : length m.work ≡ limit B m.chain * waiting.width) where
    abbrev i : ℕ
    i = m.chain

    abbrev o : Opening
    o = chain_opening B i

    abbrev it : Item
    it = item_here B S m

    abbrev T : Tables
    T = brought S i m.work

    abbrev b' : Book
    b' = book_after o (b i) T it

    here : Bears o T (b i)
    here = v.held i l m.work w

    admitted : Admitted it
    admitted = admitted_placed (pooled (free_in S.ledger i)) m.item p

    held_own : Bears o (worked B S m) b'
    held_own = held_after o (b i) T it here admitted

    abbrev new : List Copy
    new = rows_of waiting.form (worked B S m).waiting (cell (worked B S m).net waiting_at)

    new_is : new ≡ b'.live.queue.waiting
    new_is = ap (λ (q : Live). q.queue.waiting) held_own.held.wrote.holds ∙ ap (λ (q : LiveBy plain). q.queue.waiting) held_own.same

    abbrev parts : ℕ → List Copy
    parts = put i new (pool_of S)

    abbrev ledger' : List ℕ
    ledger' = (stand_next B S m).ledger

    inside : count_at i < length S.ledger
    inside = let e = v.told.long in let f = ok.few in omega (arith, e, f, l)

    count_own : counts ledger' i ≡ cell (worked B S m).net waiting_at
    count_own = get_or-set_same S.ledger (count_at i) (cell (worked B S m).net waiting_at) 0 inside

    count_other : (j : ℕ) → (j ≡ i → ⊥) → counts ledger' j ≡ counts S.ledger j
    count_other j d = get_or-set_other S.ledger (count_at i) (count_at j) (cell (worked B S m).net waiting_at) 0 (λ e. d (omega arith))

    counts_are : (j : ℕ) → j < n → counts ledger' j ≡ length (parts j)
    unfolding copies_in
    counts_are j q = go (eqb j i) refl
      where
        go : (c : Bool) → eqb j i ≡ c → counts ledger' j ≡ length (cond c new (pool_of S j))
        go true d = ap (counts ledger') (eqb-true j i d) ∙ count_own ∙ sym (length_rows waiting.width waiting.read (cell (worked B S m).net waiting_at) (worked B S m).waiting)
        go false d = count_other j (eqb-false j i d) ∙ sym (length_rows waiting.width waiting.read (counts S.ledger j) (drop (sum_below j (counts S.ledger) * waiting.width) S.pool))

    told_next : Told ledger' (books_along B b S m)
    told_next = record {
      long = length-set S.ledger (count_at i) (cell (worked B S m).net waiting_at) ∙ v.told.long;
      chains = get_or-set_other S.ledger (count_at i) 0 (cell (worked B S m).net waiting_at) 0 (λ e. omega arith) ∙ v.told.chains;
      slots = get_or-set_other S.ledger (count_at i) 1 (cell (worked B S m).net waiting_at) 0 (λ e. omega arith) ∙ v.told.slots;
      share = λ j q. get_or-set_other S.ledger (count_at i) (share_at j) (cell (worked B S m).net waiting_at) 0 (λ e. omega arith) ∙ v.told.share j q;
      count = λ j q. go j q (eqb j i) refl;
    }
      where
        go : (j : ℕ) → j < n → (c : Bool) → eqb j i ≡ c → counts ledger' j ≡ length (cond c b' (b j)).live.queue.waiting
        go j q true d = ap (counts ledger') (eqb-true j i d) ∙ count_own ∙ waiting_count o (worked B S m) b' held_own
        go j q false d = count_other j (eqb-false j i d) ∙ v.told.count j q

    found : (j : ℕ) → j < n → pool_of (stand_next B S m) j ≡ parts j
    found j q = put_back n parts (counts ledger') counts_are S.pool j q

    held_next : (j : ℕ) → j < n → (work : List ℕ) → length work ≡ limit B j * waiting.width → Bears (chain_opening B j) (brought (stand_next B S m) j work) (books_along B b S m j)
    held_next j q work e =
        subst (λ (x : List Copy). Bears (chain_opening B j) (set_waiting ((stand_next B S m).tables j) (over waiting.form x work)) (books_along B b S m j)) (sym (found j q)) (go (eqb j i) refl)
      where
        own : j ≡ i → Bears (chain_opening B i) (set_waiting (worked B S m) (over waiting.form new work)) b'
        own d = subst (λ (x : List Copy). Bears (chain_opening B i) (set_waiting (worked B S m) (over waiting.form x work)) b') (sym new_is) (bears_brought o (worked B S m) b' held_own work (e ∙ ap (λ (x : ℕ). limit B x * waiting.width) d))

        go : (c : Bool) → eqb j i ≡ c → Bears (chain_opening B j) (set_waiting (cond c (worked B S m) (S.tables j)) (over waiting.form (cond c new (pool_of S j)) work)) (cond c b' (b j))
        go true d = subst (λ (x : ℕ). Bears (chain_opening B x) (set_waiting (worked B S m) (over waiting.form new work)) b') (sym (eqb-true j i d)) (own (eqb-true j i d))
        go false d = v.held j q work e

    abbrev rest : ℕ
    rest = others_below n i (λ j. takes (B.share j) (in_books b j))

    few : length b'.live.queue.waiting ≤ B.slots - rest
    few =
        item_few o T (b i) here (free_in S.ledger i) (B.slots - rest) m.item p
        (omega (arith, v.sum, one_and_others n i (λ j. takes (B.share j) (in_books b j)) l))
        (rw (same_free S b v i) (le_refl _))

    same_rest : others_below n i (λ j. takes (B.share j) (in_books (books_along B b S m) j)) ≡ rest
    same_rest = others_same n i (λ j. takes (B.share j) (in_books (books_along B b S m) j)) (λ j. takes (B.share j) (in_books b j)) (λ j e. rw e)

    own_now : in_books (books_along B b S m) i ≡ length b'.live.queue.waiting
    own_now = rw (eq-eqb i i refl)

    sum_next : sum_below n (λ j. takes (B.share j) (in_books (books_along B b S m) j)) ≤ B.slots
    sum_next =
        let a = one_and_others n i (λ j. takes (B.share j) (in_books (books_along B b S m) j)) l in
        let t = ap (takes (B.share i)) own_now in
        omega (arith, a, t, same_rest, few, v.sum, one_and_others n i (λ j. takes (B.share j) (in_books b j)) l)

    sound_next : (j : ℕ) → SoundBook (chain_opening B j) (books_along B b S m j)
    sound_next j = go (eqb j i) refl
      where
        go : (c : Bool) → eqb j i ≡ c → SoundBook (chain_opening B j) (cond c b' (b j))
        go true d = subst (λ (x : ℕ). SoundBook (chain_opening B x) b') (sym (eqb-true j i d)) held_own.sound
        go false d = v.sound j

    next : Inv (stand_next B S m) (books_along B b S m)
    next = record { held = held_next; told = told_next; sound = sound_next; sum = sum_next }

    move_holds : MoveHolds B b S m
    move_holds = (subst (λ (x : ℕ). CallHolds o (b i) T (placed (pooled x) m.item)) (same_free S b v i) (call_holds o (b i) T it here admitted), same_free S b v i)

  -- ---- Every list

  moves_hold : (ms : List Move) (S : Stand) (b : ℕ → Book) → Inv S b → AdmittedMoves B ms → MovesHold B b S ms
  moves_hold [] S b v q = tt
  moves_hold (m ∷ ms) S b v q = (move_holds S b v m q.0 q.1 q.2, moves_hold ms (stand_next B S m) (books_along B b S m) (next S b v m q.0 q.1 q.2) q.3)

  last_inv : (ms : List Move) (S : Stand) (b : ℕ → Book) → Inv S b → AdmittedMoves B ms → Inv (stand_last B S ms) (books_then B b S ms)
  last_inv [] S b v q = v
  last_inv (m ∷ ms) S b v q = last_inv ms (stand_next B S m) (books_along B b S m) (next S b v m q.0 q.1 q.2) q.3

  open_share : (i : ℕ) → i < most_chains → cell (open_ledger B) (share_at i) ≡ of_chain B B.share i
  open_share zero l = refl
  open_share (suc zero) l = refl
  open_share (suc (suc zero)) l = refl
  open_share (suc (suc (suc zero))) l = refl
  open_share (suc (suc (suc (suc zero)))) l = refl
  open_share (suc (suc (suc (suc (suc zero))))) l = refl
  open_share (suc (suc (suc (suc (suc (suc zero)))))) l = refl
  open_share (suc (suc (suc (suc (suc (suc (suc zero))))))) l = refl
  open_share (suc (suc (suc (suc (suc (suc (suc (suc i)))))))) l = absurd (omega arith)

  open_count_lem : (i : ℕ) → i < most_chains → counts (open_ledger B) i ≡ 0
  open_count_lem zero l = refl
  open_count_lem (suc zero) l = refl
  open_count_lem (suc (suc zero)) l = refl
  open_count_lem (suc (suc (suc zero))) l = refl
  open_count_lem (suc (suc (suc (suc zero)))) l = refl
  open_count_lem (suc (suc (suc (suc (suc zero))))) l = refl
  open_count_lem (suc (suc (suc (suc (suc (suc zero)))))) l = refl
  open_count_lem (suc (suc (suc (suc (suc (suc (suc zero))))))) l = refl
  open_count_lem (suc (suc (suc (suc (suc (suc (suc (suc i)))))))) l = absurd (omega arith)

  begun_told : Told (open_ledger B) (opened_books B)
  begun_told = record {
    long = refl;
    chains = refl;
    slots = refl;
    share = λ i l. let f = ok.few in open_share i (omega (arith, f, l)) ∙ ap (λ (c : Bool). cond c (B.share i) 0) (lt-ltb i n l);
    count = λ i l. let f = ok.few in open_count_lem i (omega (arith, f, l));
  }

  none_there : (pool : List ℕ) (i : ℕ) → i < n → pool_of (open_stand B pool) i ≡ []
  unfolding copies_in
  none_there pool i l = ap (rows_of waiting.form (drop (sum_below i (counts (open_ledger B)) * waiting.width) pool)) (begun_told.count i l)

  begun : (pool : List ℕ) → Inv (open_stand B pool) (opened_books B)
  begun pool = record {
    held = λ i l work e.
        subst (λ (x : List Copy). Bears (chain_opening B i) (set_waiting (chain_opened B i) (over waiting.form x work)) (opened_books B i)) (sym (none_there pool i l))
        (bears_brought (chain_opening B i) (chain_opened B i) (opened_books B i) (open_bears (B.settings i) (B.masks i) (B.lent i) (ok.chain i l)) work e);
    told = begun_told;
    sound = λ i. opened_sound (chain_opening B i) (B.masks i);
    sum = shares_sum B ok;
  }

  -- ---- THE THEOREM: demand 3 on the pool, whatever it held before
  pub pool_holds : (pool : List ℕ) (ms : List Move) → AdmittedMoves B ms → PoolHolds B pool ms
  pool_holds pool ms q =
      let v = last_inv ms (open_stand B pool) (opened_books B) (begun pool) q in
      record {
        calls = moves_hold ms (open_stand B pool) (opened_books B) (begun pool) q;
        in_pool = copies_are (stand_last B (open_stand B pool) ms) (books_then B (opened_books B) (open_stand B pool) ms) v;
        same_live = λ i l work e. let w = v.held i l work e in ap plainly w.held.wrote.holds ∙ w.same;
        books = λ i. book_holds (chain_opening B i) (books_then B (opened_books B) (open_stand B pool) ms i) (v.sound i);
        within_pool = v.sum;
      }

-- ---- (b) on the pool: inside its share a chain's replies depend on its own calls alone

-- what a book's tables reply, wherever its copies stand
abbrev reply_of : Opening → Room → Book → Call → Reply
reply_of o room b c = record { number = first_no (asked_in o room b.live c); answer = expected o b c (is_number (first_no (asked_in o room b.live c))) }

by_book : (o : Opening) (room : Room) (T : Tables) (b : Book) → Bears o T b → (c : Call) → room_reply room T c ≡ reply_of o room b c
by_book o room T b h c =
    reply_is o room T b h c
    ∙ ap both (number_is o room T b h c)
    ∙ ap made (answer_is o room T b h c (first_no (asked_in o room b.live c)) refl)
  where
    both : ℕ → Reply
    both k = record { number = k; answer = answer_t (by o h.draws) (is_number k) T c }

    made : Answer → Reply
    made a = record { number = first_no (asked_in o room b.live c); answer = a }

-- two tables that hold one book: the replies are the same, and so is the book afterwards
same_replies : (o : Opening) (T W : Tables) (b : Book) → Bears o T b → Bears o W b → (i : Item) → (reply_to T i ≡ reply_to W i) × (book_after o b T i ≡ book_after o b W i)
same_replies o T W b h g (own room c) =
    let e = by_book o room T b h c ∙ sym (by_book o room W b g c) in
    (e, ap (λ (r : Reply). book_step o b c (is_number r.number)) e)
same_replies o T W b h g (others X c) = (refl, refl)
same_replies o T W b h g (reopen X y ms) = (refl, refl)

module _ (B : Bench) (ok : Opened B) (i : ℕ) (l : i < B.chains) where
  share_free : (S : Stand) (b : ℕ → Book) → Inv B ok S b → B.share i ≤ free_in S.ledger i
  share_free S b v = rw (same_free B ok S b v i) (omega (arith, v.sum, one_and_others B.chains i (λ j. takes (B.share j) (in_books b j)) l))

  pool_step : (ms : List Move) (S : Stand) (b : ℕ → Book) (W : Tables) → Inv B ok S b → Bears (chain_opening B i) W (b i) → AdmittedMoves B ms → AllInside (chain_opening B i) (B.share i) W (own_moves i ms)
      → pool_replies B i S ms ≡ replies_to W (own_moves i ms)
  pool_step [] S b W v g q h = refl
  pool_step (m ∷ ms) S b W v g q h =
      go (eqb i m.chain) refl h (λ (U : Tables) (d : Bears (chain_opening B i) U (books_along B b S m i)) x. pool_step ms (stand_next B S m) (books_along B b S m) U (next B ok S b v m q.0 q.1 q.2) d q.3 x)
    where
      go : (c : Bool) → eqb i m.chain ≡ c → AllInside (chain_opening B i) (B.share i) W (cond c (placed alone m.item ∷ own_moves i ms) (own_moves i ms))
          → ((U : Tables) → Bears (chain_opening B i) U (books_along B b S m i) → AllInside (chain_opening B i) (B.share i) U (own_moves i ms) → pool_replies B i (stand_next B S m) ms ≡ replies_to U (own_moves i ms))
          → cond c (reply_to (brought S m.chain m.work) (item_here B S m) ∷ pool_replies B i (stand_next B S m) ms) (pool_replies B i (stand_next B S m) ms) ≡ replies_to W (cond c (placed alone m.item ∷ own_moves i ms) (own_moves i ms))
      go true e h r =
          let p = sym (eqb-true i m.chain e) in
          let o = chain_opening B i in
          let free : ℕ = free_in S.ledger i in
          let long : length m.work ≡ limit B i * waiting.width = q.2 ∙ ap (λ (k : ℕ). limit B k * waiting.width) p in
          let here = v.held i l m.work long in
          let x = same_replies o (brought S i m.work) W (b i) here g (placed (pooled free) m.item) in
          let y = item_alone o (B.share i) free (ok.limits i l) (share_free S b v) W (b i) g m.item h.0 in
          let reply : reply_to (brought S m.chain m.work) (item_here B S m) ≡ reply_to W (placed alone m.item) =
          ap (λ (k : ℕ). reply_to (brought S k m.work) (placed (pooled (free_in S.ledger k)) m.item)) p ∙ x.0 ∙ y.0 in
          let book : books_along B b S m i ≡ book_after o (b i) W (placed (pooled free) m.item) =
          ap (λ (c : Bool). cond c (book_after (chain_opening B m.chain) (b m.chain) (brought S m.chain m.work) (item_here B S m)) (b i)) e
          ∙ ap (λ (k : ℕ). book_after (chain_opening B k) (b k) (brought S k m.work) (placed (pooled (free_in S.ledger k)) m.item)) p ∙ x.1 in
          let after = held_after o (b i) W (placed (pooled free) m.item) g (admitted_placed (pooled free) m.item q.1) in
          let d : Bears o (tables_after W (placed alone m.item)) (books_along B b S m i) =
          rw book (subst (λ (U : Tables). Bears o U (book_after o (b i) W (placed (pooled free) m.item))) y.1 after) in
          (λ j. reply j ∷ r (tables_after W (placed alone m.item)) d h.1 j)
      go false e h r = r W (subst (λ (k : Book). Bears (chain_opening B i) W k) (sym (ap (λ (c : Bool). cond c (book_after (chain_opening B m.chain) (b m.chain) (brought S m.chain m.work) (item_here B S m)) (b i)) e)) g) h

  -- (a) on the pool: after whatever calls of all chains, a call inside the share is answered as by a network by itself
  pub not_by_others : (pool : List ℕ) (ms : List Move) → AdmittedMoves B ms → (work : List ℕ) → length work ≡ limit B i * waiting.width → (it : Item)
      → Inside (chain_opening B i) (B.share i) (brought (stand_last B (open_stand B pool) ms) i work) (placed alone it)
      → reply_to (brought (stand_last B (open_stand B pool) ms) i work) (placed (pooled (free_in (stand_last B (open_stand B pool) ms).ledger i)) it) ≡ reply_to (brought (stand_last B (open_stand B pool) ms) i work) (placed alone it)
  not_by_others pool ms q work e it h =
      let S = stand_last B (open_stand B pool) ms in
      let b = books_then B (opened_books B) (open_stand B pool) ms in
      let v = last_inv B ok ms (open_stand B pool) (opened_books B) (begun B ok pool) q in
      (item_alone (chain_opening B i) (B.share i) (free_in S.ledger i) (ok.limits i l) (share_free S b v) (brought S i work) (b i) (v.held i l work e) it h).0

  -- NON-INTERFERENCE on the pool: the replies, rows among them, are those of a network by itself that is sent the chain's own calls
  pub pool_alone : (pool : List ℕ) (ms : List Move) → AdmittedMoves B ms → AllInside (chain_opening B i) (B.share i) (chain_opened B i) (own_moves i ms)
      → pool_replies B i (open_stand B pool) ms ≡ replies_to (chain_opened B i) (own_moves i ms)
  pool_alone pool ms q h = pool_step ms (open_stand B pool) (opened_books B) (chain_opened B i) (begun B ok pool) (open_bears (B.settings i) (B.masks i) (B.lent i) (ok.chain i l)) q h
