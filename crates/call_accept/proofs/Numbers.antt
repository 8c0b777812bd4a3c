-- The number of accept's questions, as the network has it and as the code asks. Assumes nothing.
use Prim.Native.Nat.{ℕ, zero, suc, ◌+◌, ◌-◌, ◌*◌, ◌<◌}
use mathlib.Core.Path.{◌≡◌, refl, sym, ap, ◌∙◌}
use mathlib.Core.Bool.{Bool, true, false, cond, not, ◌&&◌, ◌||◌}
use mathlib.Core.List.{[], ◌∷◌}
use native.Mathlib.Omega.{arith}
use lib.Dec.{eqb, leb, ltb}
use lib.ListN.{length}
use Rattle.table_rows.specs.Rows.{keep, pick, all_of}
use Rattle.table_rows.specs.Lists.{up_to}
use Rattle.table_rows.proofs.Lists.{up_to_same, get_d_up_to}
use Rattle.table_rows.proofs.Rows.{length_rows}
use Rattle.table_marks.specs.Marks.{found, ids_of}
use Rattle.table_marks.proofs.Search.{length_ids}
use Rattle.table_waiting.specs.Waiting as queue
use Rattle.spec_network.specs.Lists.{below}
use Rattle.spec_network.specs.Opening.{link, most_words, last_number, longest_wire, latest_now}
use Rattle.spec_network.specs.Live.{Live, marked, ids_at}
use Rattle.spec_network.specs.Accept.{Entry, message_of, receives, selected}
use Rattle.spec_network.specs.Calls.{accept}
use Rattle.spec_network.specs.Questions.{asked, first_no, ask8, ask9, ask10, ask11}
use Rattle.spec_network.specs.Tables.{cell, Tables, live, sizes_at, ids_start, waiting_at, sequence_at, fault_words_at}
use Rattle.spec_network.specs.Real.{id_of, draws_of, opening_at}
use Rattle.spec_network.specs.Lent.{question1}
use Rattle.spec_network.specs.Writes.{call_reply}
use Rattle.ask_tables.specs.Held.{setup_held, net_held, names_held, tills_held, words_held, keys_held, prices_held, seen_held, waiting_held, rings_held, rules_held, blocks_held}
use Rattle.call_offer.specs.declared.Outgoing.{Outgoing}
use Rattle.call_offer.specs.Needed.{SeenHeld}
use Rattle.call_offer.specs.Offering.{selects_at}
use Rattle.call_offer.proofs.Readings.{selects_is, marks_in_lem}
use Rattle.call_recipients.specs.Turning.{rest, remaining}
use Rattle.ask_accept.specs.Asking.{accept_lent, argument_number, scope_exists, free_at, tail_number}

-- ---- A ladder of four

abbrev pub ladder : (a b c d : Bool) (r : ℕ) → ℕ
ladder a b c d r = cond a (cond b (cond c (cond d r 7) 6) 5) 4

pub refused_early : (a b c d : Bool) (r k : ℕ) → k ≡ ladder a b c d 0 → (k ≡ 0 → ⊥) → k ≡ ladder a b c d r
refused_early true true true true r k e h = absurd (h e)
refused_early true true true false r k e h = e
refused_early true true false d r k e h = e
refused_early true false c d r k e h = e
refused_early false b c d r k e h = e

pub all_passed : (a b c d : Bool) (k : ℕ) → k ≡ ladder a b c d 0 → k ≡ 0 → (a ≡ true) × (b ≡ true) × (c ≡ true) × (d ≡ true)
all_passed true true true true k e h = (refl, refl, refl, refl)
all_passed true true true false k e h = absurd (omega arith)
all_passed true true false d k e h = absurd (omega arith)
all_passed true false c d k e h = absurd (omega arith)
all_passed false b c d k e h = absurd (omega arith)

-- ---- The selected

keep_same : (q p : ℕ → Bool) (k : ℕ) (f : ℕ → ℕ) → ((i : ℕ) → i < k → q (f i) ≡ p (f i)) → keep q (up_to k f) ≡ keep p (up_to k f)
keep_same q p zero f h = refl
keep_same q p (suc k) f h =
    let a = keep_same q p k (λ i. f (suc i)) (λ i l. h (suc i) (omega arith)) in
    (λ j. pick (h 0 (omega arith) j) (f 0 ∷ a j) (a j))

all_same : (q a b : ℕ → Bool) (k : ℕ) (f : ℕ → ℕ) → ((i : ℕ) → i < k → a (f i) ≡ b (f i)) → all_of a (keep q (up_to k f)) ≡ all_of b (keep q (up_to k f))
all_same q a b zero f h = refl
all_same q a b (suc k) f h = go (q (f 0)) (all_same q a b k (λ i. f (suc i)) (λ i l. h (suc i) (omega arith)))
  where
    go : (x : Bool) → all_of a (keep q (up_to k (λ i. f (suc i)))) ≡ all_of b (keep q (up_to k (λ i. f (suc i))))
        → all_of a (pick x (f 0 ∷ keep q (up_to k (λ i. f (suc i)))) (keep q (up_to k (λ i. f (suc i))))) ≡ all_of b
        (pick x (f 0 ∷ keep q (up_to k (λ i. f (suc i)))) (keep q (up_to k (λ i. f (suc i)))))
    go true more = (λ j. h 0 (omega arith) j && more j)
    go false more = more

from_zero : (q : ℕ → Bool) (n : ℕ) → keep q (below n) ≡ rest q n 0
from_zero q n =
    let e : n - 0 ≡ n = omega arith in
    sym (ap (λ (k : ℕ). keep q (up_to k (λ i. 0 + i))) e ∙ ap (keep q) (up_to_same n (λ i. i) (λ i. 0 + i) (λ k l. omega arith)))

module _ (T : Tables) (e : Entry) (m : Outgoing) (from : m.from ≡ e.from) (scope : m.scope ≡ e.scope) where
  abbrev s : Live
  s = live (sizes_at T.setup) T

  abbrev n : ℕ
  n = (sizes_at T.setup).tills

  abbrev q : ℕ → Bool
  q t = selects_at T.tills m.scope m.from t

  pub chosen_is : selected (opening_at T) s e.scope e.from ≡ remaining T.setup T.tills m 0
  chosen_is =
      keep_same (λ t. receives s e.scope t && not (eqb t e.from)) q n (λ i. i) (λ i l. selects_is T e.scope e.from i l ∙ (λ j. selects_at T.tills (sym scope j) (sym from j) i))
      ∙ from_zero q n

-- ---- Question 1

pub lent_is : (T : Tables) (e : Entry) (b : Bool) →
    question1 (sizes_at T.setup) T (accept e b) ≡ accept_lent T.setup T.net T.names T.tills T.words T.keys T.prices T.seen T.waiting T.rings T.rules T.blocks
unfolding accept_lent setup_held net_held names_held tills_held words_held keys_held prices_held seen_held waiting_held rings_held rules_held blocks_held
lent_is T e b = refl

pub number_shut : (T : Tables) (e : Entry) (b : Bool) → accept_lent T.setup T.net T.names T.tills T.words T.keys T.prices T.seen T.waiting T.rings T.rules T.blocks ≡ false
    → 1 ≡ (call_reply T (accept e b)).number
number_shut T e b h = ap (λ (x : Bool). cond x (first_no (asked (opening_at T) (live (sizes_at T.setup) T) (accept e b))) 1) (sym (lent_is T e b ∙ h))

number_open : (T : Tables) (e : Entry) (b : Bool) → accept_lent T.setup T.net T.names T.tills T.words T.keys T.prices T.seen T.waiting T.rings T.rules T.blocks ≡ true
    → first_no (asked (opening_at T) (live (sizes_at T.setup) T) (accept e b)) ≡ (call_reply T (accept e b)).number
number_open T e b h = ap (λ (x : Bool). cond x (first_no (asked (opening_at T) (live (sizes_at T.setup) T) (accept e b))) 1) (sym (lent_is T e b ∙ h))

-- ---- Questions 4 to 7

module _ (T : Tables) (e : Entry) (lends : accept_lent T.setup T.net T.names T.tills T.words T.keys T.prices T.seen T.waiting T.rings T.rules T.blocks ≡ true) where
  abbrev till : Bool
  till = ltb e.from (sizes_at T.setup).tills

  abbrev near : Bool
  near = ltb e.kind (sizes_at T.setup).types && ltb e.class (sizes_at T.setup).classes && scope_exists T.setup e.scope

  abbrev short : Bool
  short = leb (length e.wire) longest_wire

  abbrev soon : Bool
  soon = leb e.now latest_now

  abbrev late : ℕ
  late = let s = live (sizes_at T.setup) T in first_no (ask8 (opening_at T) s e ∷ ask9 (opening_at T) s e ∷ ask10 (opening_at T) s e ∷ ask11 (opening_at T) s e ∷ [])

  abbrev args : ℕ → ℕ
  args r = argument_number T.setup e.from e.kind e.class e.scope (length e.wire) e.now r

  pub number_early : (b : Bool) (k : ℕ) → k ≡ args 0 → (k ≡ 0 → ⊥) → k ≡ (call_reply T (accept e b)).number
  unfolding argument_number
  number_early true k p h = refused_early till near short soon late k p h ∙ number_open T e true lends
  number_early false k p h = p ∙ number_open T e false lends

  pub number_closed : (k : ℕ) → k ≡ args 0 → k ≡ (call_reply T (accept e false)).number
  unfolding argument_number
  number_closed k p = p ∙ number_open T e false lends

  -- ---- Questions 8 to 11

  module _ (m : Outgoing) (from : m.from ≡ e.from) (scope : m.scope ≡ e.scope) (id : m.id ≡ id_of T.names e.kind e.scope e.wire) (S : SeenHeld (sizes_at T.setup) T.seen) where
    free_same : (t : ℕ) → t < (sizes_at T.setup).tills
        → (marked (live (sizes_at T.setup) T) t (message_of (opening_at T) e).id || ltb (length (ids_at (live (sizes_at T.setup) T) t)) (sizes_at T.setup).seen_slots) ≡ free_at T.setup T.seen m t
    unfolding draws_of
    free_same t h =
        let z = sizes_at T.setup in
        let i = marks_in_lem t z.tills z.seen_slots h in
        let ids : ids_at (live z T) t ≡ ids_of T.seen (ids_start z t) (cell T.seen t) = get_d_up_to z.tills (λ k. ids_of T.seen (ids_start z k) (cell T.seen k)) t [] h in
        let long : length (ids_at (live z T) t) ≡ cell T.seen t = ap length ids ∙ length_ids T.seen (ids_start z t) (cell T.seen t) 0 (omega (arith, S.size, S.counts t h)) in
        (λ j. found (sym id j) (ids j) || ltb (long j) z.seen_slots)

    pub number_late : (k t : ℕ) → k ≡ args 0 → k ≡ 0 → t ≡ tail_number T.setup T.net T.tills T.words T.seen m → t ≡ (call_reply T (accept e true)).number
    unfolding argument_number tail_number
    number_late k t p z r =
        let c = chosen_is T e m from scope in
        let g = all_passed till near short soon k p z in
        let free : all_of (λ (u : ℕ). marked (live (sizes_at T.setup) T) u (message_of (opening_at T) e).id || ltb (length (ids_at (live (sizes_at T.setup) T) u))
        (sizes_at T.setup).seen_slots) (selected (opening_at T) (live (sizes_at T.setup) T) e.scope e.from)
        ≡ all_of (free_at T.setup T.seen m) (remaining T.setup T.tills m 0) =
        all_same (λ u. receives (live (sizes_at T.setup) T) e.scope u && not (eqb u e.from))
        (λ (u : ℕ). marked (live (sizes_at T.setup) T) u (message_of (opening_at T) e).id || ltb (length (ids_at (live (sizes_at T.setup) T) u))
        (sizes_at T.setup).seen_slots) (free_at T.setup T.seen m) (sizes_at T.setup).tills (λ i. i) free_same
        ∙ ap (all_of (free_at T.setup T.seen m)) c in
        let long : length (live (sizes_at T.setup) T).queue.waiting ≡ cell T.net waiting_at = length_rows queue.width queue.read (cell T.net waiting_at) T.waiting in
        r
        ∙ sym (λ j. cond (ltb (cell T.net fault_words_at) most_words && all_of (λ (u : ℕ). ltb (cell T.words (link (sym from j) u)) most_words) (c j))
        (cond (leb (cell T.net sequence_at + 3 * length (c j)) last_number) (cond (free j) (cond (leb (long j + 3 * length (c j)) (sizes_at T.setup).wait_slots) 0 11) 10) 9) 8)
        ∙ sym (λ j. ladder (g.0 j) (g.1 j) (g.2 j) (g.3 j) late)
        ∙ number_open T e true lends
