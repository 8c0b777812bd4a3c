-- A chain inside its share finds the answers of a network by itself; and an accepted call leaves no more copies than there were, or than it found room for.
use mathlib.Core.Path.{◌≡◌, refl, sym, ap, subst}
use Prim.Native.Nat.{ℕ, zero, suc, ◌+◌, ◌*◌, ◌≤◌}
use native.Mathlib.Omega.{arith}
use native.Mathlib.Nat.{le_trans}
use mathlib.Core.Bool.{true, cond}
use mathlib.Core.List.{List, [], ◌∷◌}
use lib.Dec.{leb}
use lib.ListN.{length}
use borrow.Author.Tests.{le-leb, leb-true}
use Rattle.table_waiting.specs.declared.Copy.{Copy}
use Rattle.spec_network.specs.Opening.{Opening, Draws}
use Rattle.spec_network.specs.Layout.{plain}
use Rattle.spec_network.specs.Live.{Live, LiveBy}
use Rattle.spec_network.specs.Accept.{Message, message_of, chosen, drawn, Fate, deduplicated, partition, loss, fault, sent, fate_of, copies, effect, offered, live_after}
use Rattle.spec_network.specs.Calls.{Call, live_step, accept}
use Rattle.spec_network.specs.Questions.{alone, pooled, first_no, asked_in}
use Rattle.spec_network.specs.Tables.{Tables, live}
use Rattle.spec_network.specs.Real.{opening_at}
use Rattle.spec_network.specs.Lent.{question1}
use Rattle.spec_network.specs.Writes.{Reply, is_number, number_in, exit_t, answer_t}
use Rattle.spec_book.specs.Book.{Book, book_step}
use Rattle.spec_book.specs.Demand3.{Item, own, others, reopen, reply_to, tables_after}
use Rattle.spec_book.proofs.Each.{both}
use Rattle.spec_book.proofs.Asking.{all_yes, apart_in}
use Rattle.spec_book.proofs.Echoing.{drawn_few}
use Rattle.spec_book.proofs.EachKind.{each_kind}
use Rattle.spec_book.proofs.Serving.{later_short}
use Rattle.spec_book.proofs.Fitting.{length_insert_all, few_copies}
use Rattle.spec_book.proofs.Drawing.{by}
use Rattle.spec_book.proofs.Final.{Bears}
use Rattle.spec_chains.specs.Chains.{placed, InsideCall, Inside}

-- ---- (a) No doings of the others get a chain refused inside its share

module _ (o : Opening) (share free : ℕ) (in-limit : share ≤ o.sizes.wait_slots) (in_pool : share ≤ free) where
  pub same_number : (d : Draws) (s : Live) (c : Call) → InsideCall o share s c → first_no (asked_in (by o d) (pooled free) s c) ≡ first_no (asked_in (by o d) alone s c)
  same_number d s c =
      each_kind (by o d) s (λ (x : Call). InsideCall o share s x → first_no (asked_in (by o d) (pooled free) s x) ≡ first_no (asked_in (by o d) alone s x))
      (λ e h.
      let n : ℕ = length s.queue.waiting + 3 * length (chosen o s e) in
      let l : leb n o.sizes.wait_slots ≡ true = le-leb n o.sizes.wait_slots (le_trans h in-limit) in
      let p : leb n free ≡ true = le-leb n free (le_trans h in_pool) in
      rw (l, p))
      (λ now rows h. refl)
      (λ t h. refl)
      (λ rows h. refl)
      (λ x i h. ap first_no (i.questions (pooled free)))
      c

  number_alone : (d : Draws) (T : Tables) (c : Call) → InsideCall o share (live o.sizes T) c → number_in (by o d) (pooled free) T c ≡ number_in (by o d) alone T c
  number_alone d T c h = ap (λ (n : ℕ). cond (question1 o.sizes T c) n 1) (same_number d (live o.sizes T) c h)

  -- replies and tables are those of a network by itself
  pub item_alone : (T : Tables) (b : Book) → Bears o T b → (i : Item) → Inside o share T (placed alone i)
      → (reply_to T (placed (pooled free) i) ≡ reply_to T (placed alone i)) × (tables_after T (placed (pooled free) i) ≡ tables_after T (placed alone i))
  item_alone T b h (own room c) q =
      let e : number_in (opening_at T) (pooled free) T c ≡ number_in (opening_at T) alone T c =
      subst (λ (p : Opening). number_in p (pooled free) T c ≡ number_in p alone T c) (sym h.held.fixed.opening) (number_alone h.draws T c q) in
      (ap (λ (n : ℕ). replied n) e, ap (λ (n : ℕ). exit_t (opening_at T) (is_number n) T c) e)
    where
      replied : ℕ → Reply
      replied n = record { number = n; answer = answer_t (opening_at T) (is_number n) T c }
  item_alone T b h (others X c) q = (refl, refl)
  item_alone T b h (reopen X y ms) q = (refl, refl)

-- ---- How many copies wait after a call

module _ (o : Opening) where
  effect_few : (m : Message) (s : LiveBy plain) (t : ℕ) (k : Fate) → length (effect o m k s (drawn o m t s) t).queue.waiting ≤ length s.queue.waiting + 3
  effect_few m s t deduplicated = omega arith
  effect_few m s t partition = omega arith
  effect_few m s t loss = omega arith
  effect_few m s t fault = omega arith
  effect_few m s t sent = omega (arith, length_insert_all plain (copies o m s (drawn o m t s) t) s.queue.waiting, few_copies o m s (drawn o m t s) t (drawn_few o m t s))

  accept_few : (m : Message) (ts : List ℕ) (s : LiveBy plain) → length (live_after o m s ts).queue.waiting ≤ length s.queue.waiting + 3 * length ts
  unfolding offered
  accept_few m [] s = omega arith
  accept_few m (t ∷ ts) s = omega (arith, accept_few m ts (offered o m s t), effect_few m s t (fate_of o m s t))

  -- no more than there were, or than it found room for
  pub step_few : (free most : ℕ) (s : LiveBy plain) (c : Call) → first_no (asked_in o (pooled free) s c) ≡ 0 → length s.queue.waiting ≤ most → free ≤ most → length (live_step o s c).queue.waiting ≤ most
  step_few free most s c h w f =
      each_kind o s (λ (x : Call). first_no (asked_in o (pooled free) s x) ≡ 0 → length (live_step o s x).queue.waiting ≤ most)
      (λ e q.
      let y = all_yes (asked_in o (pooled free) s (accept e true)) (apart_in o (pooled free) s (accept e true)) q in
      let n : ℕ = length s.queue.waiting + 3 * length (chosen o s e) in
      let l = leb-true n free (both (leb n o.sizes.wait_slots) (leb n free) y.1.1.1.1.1.1.1.0).1 in
      omega (arith, accept_few (message_of o e) (chosen o s e) s, l))
      (λ now rows q. le_trans (later_short now rows s) w)
      (λ t q. w)
      (λ rows q. w)
      (λ x i q. subst (λ (l : List Copy). length l ≤ most) (sym i.waiting) w)
      c h

  pub book_few : (free most : ℕ) (b : Book) (c : Call) (n : ℕ) → n ≡ first_no (asked_in o (pooled free) b.live c) → length b.live.queue.waiting ≤ most → free ≤ most → length (book_step o b c (is_number n)).live.queue.waiting ≤ most
  book_few free most b c zero e w f = step_few free most b.live c (sym e) w f
  book_few free most b c (suc n) e w f = w
