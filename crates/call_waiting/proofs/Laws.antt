-- The ways through the readings: the ladders of their questions, what a passed one says, and the calls by the network's definitions. Assumes nothing.
use mathlib.Core.Path.{◌≡◌, refl, sym, ap, ◌∙◌}
use mathlib.Core.Bool.{Bool, true, false, cond}
use mathlib.Core.List.{List, ◌++◌}
use Prim.Native.Nat.{ℕ, ◌+◌, ◌*◌, ◌/◌, ◌≤◌, ◌<◌}
use native.Mathlib.Nat.{div-mul-le_self, mul-le-mul_right}
use native.Mathlib.Omega.{arith}
use lib.Dec.{leb}
use lib.ListN.{length, take, drop}
use lib.Seq.{length-take-le}
use borrow.Author.Tests.{leb-true, le-leb, lt-leb, lt-ltb, le-ltb}
use Rattle.table_rows.specs.Rows.{flat}
use Rattle.table_rows.proofs.Rows.{length_rows}
use Rattle.table_rows.proofs.Table.{flat_rows}
use Rattle.table_delivery.specs.declared.Delivery.{Delivery}
use Rattle.table_delivery.specs.Delivery as delivery
use Rattle.table_waiting.specs.Waiting as waiting
use Rattle.table_waiting.proofs.Reading as waiting-laws
use Rattle.spec_network.specs.Calls.{Reading, reading, transit, next_time, number, answer_of}
use Rattle.spec_network.specs.Tables.{Tables, cell, sizes_at, live, net_width, waiting_at}
use Rattle.spec_network.specs.Real.{opening_at}
use Rattle.spec_network.specs.Lending.{lend_waiting}
use Rattle.spec_network.specs.Writes.{Reply, output_of, call_reply}
use Rattle.ask_tables.specs.Held.{setup_held, net_held, waiting_held}
use Rattle.ask_tables.proofs.Ladder.{yes, no, both, only}
use Rattle.ask_tables.proofs.Passed.{PassedNet, net_says_lem}
use Rattle.ask_rows.proofs.Passed.{PassedWaiting, waiting_says_lem}
use Rattle.ask_refusal.specs.declared.Refusal.{Refusal}
use Rattle.ask_refusal.specs.declared.Refusal.TheVariants.{Tables as TablesRefused}
use Rattle.ask_refusal.specs.Refusals.{number_of}
use Rattle.ask_refusal.proofs.Laws.{number_not_0}
use Rattle.call_reply.specs.Reply.{refused_by}
use Rattle.call_reply.proofs.Laws as reply
use Rattle.call_waiting.specs.Call.{Reads, copied_of, copies_call, DoesCopies, waiting_lent, lent_number, till_number, out_number, transit_of, not_copied}
use Rattle.call_waiting.proofs.Work.{first_none, first_some}

-- ---- The ladders

module _ (s n w : List ℕ) where
  pub not_lent : (rest : ℕ) → waiting_lent s n w ≡ false → 1 ≡ lent_number s n w rest
  unfolding lent_number
  not_lent rest h = no _ _ _ _ h refl

  pub is_lent : (r rest : ℕ) → waiting_lent s n w ≡ true → r ≡ rest → r ≡ lent_number s n w rest
  unfolding lent_number
  is_lent r rest h q = yes _ _ _ _ h q

  pub far_till : (t k : ℕ) → k ≡ (sizes_at s).tills → k ≤ t → 4 ≡ till_number s t
  unfolding till_number
  far_till t k e q = no _ _ _ _ (le-ltb t (sizes_at s).tills (omega (arith, e, q))) refl

  pub near_till_lem : (t k : ℕ) → k ≡ (sizes_at s).tills → t < k → 0 ≡ till_number s t
  unfolding till_number
  near_till_lem t k e q = yes _ _ _ _ (lt-ltb t (sizes_at s).tills (omega (arith, e, q))) refl

  pub short_out : (rows k : ℕ) → k ≡ (sizes_at s).wait_slots → rows < k → 1 ≡ out_number s rows
  unfolding out_number
  short_out rows k e q = no _ _ _ _ (lt-leb (sizes_at s).wait_slots rows (omega (arith, e, q))) refl

  pub long_out : (rows k : ℕ) → k ≡ (sizes_at s).wait_slots → k ≤ rows → 0 ≡ out_number s rows
  unfolding out_number
  long_out rows k e q = yes _ _ _ _ (le-leb (sizes_at s).wait_slots rows (omega (arith, e, q))) refl

  -- ---- What a passed ladder says

  pub record Held : Type 0 where
    pub net : PassedNet s n
    pub waiting : PassedWaiting s n w

  pub holds : waiting_lent s n w ≡ true → Held
  unfolding waiting_lent
  holds h =
      let q = both (setup_held s) _ h in
      let p = both (net_held s n) _ q.1 in
      record { net = net_says_lem s n p.0; waiting = waiting_says_lem s n w (only _ p.1) }

  one : (x : Bool) (rest : ℕ) → 0 ≡ cond x rest 1 → (x ≡ true) × (rest ≡ 0)
  one true rest p = (refl, sym p)
  one false rest p = absurd (omega arith)

  pub passed : (rest : ℕ) → 0 ≡ lent_number s n w rest → (waiting_lent s n w ≡ true) × (rest ≡ 0)
  unfolding lent_number
  passed rest p = one (waiting_lent s n w) rest p

  pub net_long : waiting_lent s n w ≡ true → length n ≡ net_width
  net_long h = (holds h).net.size

  pub rows_room : waiting_lent s n w ≡ true → cell n waiting_at * waiting.width ≤ length w
  rows_room h = let m : cell n waiting_at * waiting.width ≤ (sizes_at s).wait_slots * waiting.width = mul-le-mul_right waiting.width (holds h).net.waiting in omega (arith, m, (holds h).waiting.size)

-- ---- A reading that answers a number

module _ (c : Reading) (s n w : List ℕ) (N : ℕ) (same : (T : Tables) → N ≡ (call_reply (lend_waiting T s n w) (reading c)).number) where
  read_refused : (e : Refusal) → number_of e ≡ N → Reads s n w c (refused_by (number_of e))
  unfolding Reads
  read_refused e q = λ T. (
    reply.value_refused (lend_waiting T s n w) (reading c) (number_of e) (q ∙ same T) (number_not_0 e),
    reply.stays (lend_waiting T s n w) (reading c) (number_of e) (q ∙ same T) (number_not_0 e),
  )

  read_done : 0 ≡ N → (f x : ℕ) → ((T : Tables) → answer_of (opening_at (lend_waiting T s n w)) (live (sizes_at s) (lend_waiting T s n w)) (reading c) ≡ number f x)
      → Reads s n w c (record { number = 0; found = f; value = x })
  unfolding Reads
  read_done q f x a = λ T. (reply.value (lend_waiting T s n w) (reading c) 0 (q ∙ same T) refl f x (a T), reply.steps (lend_waiting T s n w) (reading c) 0 (q ∙ same T) refl)

module _ (s n w : List ℕ) (t : ℕ) where
  transit_number : (T : Tables) → lent_number s n w (till_number s t) ≡ (call_reply (lend_waiting T s n w) (reading (transit t))).number
  unfolding lent_number till_number waiting_lent setup_held net_held waiting_held
  transit_number T = refl

  pub transit_refused : (e : Refusal) → number_of e ≡ lent_number s n w (till_number s t) → Reads s n w (transit t) (refused_by (number_of e))
  transit_refused e q = read_refused (transit t) s n w _ transit_number e q

  pub transit_done : 0 ≡ lent_number s n w (till_number s t) → (x : ℕ) → x ≡ transit_of t w (cell n waiting_at) → Reads s n w (transit t) (record { number = 0; found = 1; value = x })
  unfolding transit_of
  transit_done h x q = read_done (transit t) s n w _ transit_number h 1 x (λ T. ap (λ (k : ℕ). number 1 k) (sym q))

module _ (s n w : List ℕ) where
  next_number : (T : Tables) → lent_number s n w 0 ≡ (call_reply (lend_waiting T s n w) (reading next_time)).number
  unfolding lent_number waiting_lent setup_held net_held waiting_held
  next_number T = refl

  pub next_refused : waiting_lent s n w ≡ false → Reads s n w next_time (refused_by 1)
  next_refused h = read_refused next_time s n w _ next_number TablesRefused (not_lent s n w 0 h)

  pub next_none : waiting_lent s n w ≡ true → cell n waiting_at ≡ 0 → Reads s n w next_time (record { number = 0; found = 0; value = 0 })
  next_none h q = read_done next_time s n w _ next_number (is_lent s n w 0 0 h refl) 0 0 (λ T. first_none w (cell n waiting_at) q)

  pub next_some : waiting_lent s n w ≡ true → (cell n waiting_at ≡ 0 → ⊥) → (d : Delivery) → d ≡ delivery.read (drop 0 w) → Reads s n w next_time (record { number = 0; found = 1; value = d.time })
  next_some h q d ed =
      read_done next_time s n w _ next_number (is_lent s n w 0 0 h refl) 1 d.time
      (λ T. first_some w (cell n waiting_at) q ∙ ap (λ (x : Delivery). number 1 x.time) (sym ed))

  -- the first row is there
  pub first_room : waiting_lent s n w ≡ true → (cell n waiting_at ≡ 0 → ⊥) → 0 + delivery.width ≤ length w
  first_room h q = omega (arith, rows_room s n w h, q)

-- ---- All of them

module _ (s n w out : List ℕ) where
  copies_number : (T : Tables) → lent_number s n w (out_number s (length out / waiting.width)) ≡ (call_reply (lend_waiting T s n w) (copies_call out)).number
  unfolding lent_number out_number waiting_lent setup_held net_held waiting_held
  copies_number T = refl

  pub copies_refused : (e : Refusal) → number_of e ≡ lent_number s n w (out_number s (length out / waiting.width)) → DoesCopies s n w (not_copied (number_of e)) out out
  unfolding DoesCopies
  copies_refused e q = λ T.
      let same = q ∙ copies_number T in
      let still = reply.silenced (lend_waiting T s n w) (copies_call out) (number_of e) same (number_not_0 e) in (
        ap copied_of (sym still),
        reply.stays (lend_waiting T s n w) (copies_call out) (number_of e) same (number_not_0 e),
        sym (ap (λ (a : Reply). output_of a.answer ++ drop (length (output_of a.answer)) out) still),
      )

  module _ (q : 0 ≡ lent_number s n w (out_number s (length out / waiting.width))) where
    lent : waiting_lent s n w ≡ true
    lent = (passed s n w (out_number s (length out / waiting.width)) q).0

    slots_fit : (sizes_at s).wait_slots ≤ length out / waiting.width
    unfolding out_number
    slots_fit = go (leb (sizes_at s).wait_slots (length out / waiting.width)) refl (passed s n w (out_number s (length out / waiting.width)) q).1
      where
        go : (x : Bool) → leb (sizes_at s).wait_slots (length out / waiting.width) ≡ x → ◌≡◌ {A = ℕ} (cond x 0 1) 0 → (sizes_at s).wait_slots ≤ length out / waiting.width
        go true p q = leb-true (sizes_at s).wait_slots (length out / waiting.width) p
        go false p q = absurd (omega arith)

    pub copies_net : length n ≡ net_width
    copies_net = net_long s n w lent

    pub copies_room : (cell n waiting_at * waiting.width ≤ length w) × (cell n waiting_at * waiting.width ≤ length out)
    copies_room =
        let few : cell n waiting_at ≤ length out / waiting.width = omega (arith, (holds s n w lent).net.waiting, slots_fit) in
        let m : cell n waiting_at * waiting.width ≤ length out / waiting.width * waiting.width = mul-le-mul_right waiting.width few in
        (rows_room s n w lent, omega (arith, m, div-mul-le_self (length out) waiting.width))

    words_are : flat waiting.words (waiting.copies w (cell n waiting_at)) ≡ take (cell n waiting_at * waiting.width) w
    words_are = flat_rows waiting.form waiting-laws.exact (cell n waiting_at) w copies_room.0

    front : take (cell n waiting_at * waiting.width) w ++ drop (cell n waiting_at * waiting.width) out
        ≡ flat waiting.words (waiting.copies w (cell n waiting_at)) ++ drop (length (flat waiting.words (waiting.copies w (cell n waiting_at)))) out
    front =
        let m : ℕ = cell n waiting_at * waiting.width in
        ap (λ (i : ℕ). take (cell n waiting_at * waiting.width) w ++ drop i out) (sym (length-take-le (cell n waiting_at * waiting.width) w copies_room.0))
        ∙ ap (λ (x : List ℕ). x ++ drop (length x) out) (sym words_are)

    pub copies_done : (out' : List ℕ) → out' ≡ take (cell n waiting_at * waiting.width) w ++ drop (cell n waiting_at * waiting.width) out
        → DoesCopies s n w (record { number = 0; copies = cell n waiting_at }) out out'
    unfolding DoesCopies
    copies_done out' p = λ T.
        let same = q ∙ copies_number T in
        let told = reply.answered (lend_waiting T s n w) (copies_call out) 0 same refl in (
          ap (λ (k : ℕ). record { number = 0; copies = k }) (sym (length_rows waiting.width waiting.read (cell n waiting_at) w)) ∙ sym (ap copied_of told),
          reply.steps (lend_waiting T s n w) (copies_call out) 0 same refl,
          p ∙ front ∙ sym (ap (λ (a : Reply). output_of a.answer ++ drop (length (output_of a.answer)) out) told),
        )
