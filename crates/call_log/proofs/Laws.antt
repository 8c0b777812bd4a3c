-- The ways through drain and tally_of: the ladders of their questions, what a passed one says, and the calls by the network's definitions. Assumes nothing.
use mathlib.Core.Path.{◌≡◌, refl, sym, ap, ◌∙◌}
use mathlib.Core.Bool.{Bool, true, false, cond}
use mathlib.Core.List.{List, ◌++◌, append-nil}
use Prim.Native.Nat.{ℕ, ◌*◌, ◌/◌, ◌≤◌, ◌<◌}
use native.Mathlib.Nat.{div-mul-le_self, mul-le-mul_right}
use native.Mathlib.Omega.{arith}
use lib.Dec.{leb, ltb}
use lib.ListN.{length, get_or, take, drop, length-drop}
use borrow.Author.Tests.{leb-true, le-leb, lt-leb, lt-ltb, le-ltb}
use Rattle.table_rows.specs.Rows.{flat}
use Rattle.table_rows.specs.Table.{over}
use Rattle.table_rows.proofs.Table.{length_words, flat_rows}
use Rattle.table_ring.specs.Ring.{most, count_at, first_at, slot_at}
use Rattle.table_ring.proofs.Laws.{length_from}
use Rattle.table_delivery.specs.Delivery as delivery
use Rattle.table_delivery.proofs.Laws as delivery-laws
use Rattle.table_log.specs.declared.Tally.{Tally}
use Rattle.table_log.specs.Log.{classes, tally_width, forced_at, tallies_at, records_at, size_of, tally_form, records_of, tallies_of, sound_log, cleared_at, tally_at}
use Rattle.table_log.proofs.Writing.{log_sound, tally_exact}
use Rattle.spec_network.specs.Calls.{tallied}
use Rattle.spec_network.specs.Tables.{Tables, sizes_at, setup_width}
use Rattle.spec_network.specs.Lending.{lend_log}
use Rattle.spec_network.specs.Writes.{Reply, output_of, call_reply}
use Rattle.ask_tables.specs.Held.{setup_held, log_held}
use Rattle.ask_tables.proofs.Ladder.{yes, no, both, only}
use Rattle.ask_tables.proofs.Passed.{PassedSetup, setup_says_lem}
use Rattle.ask_rows.proofs.Passed.{PassedLog, log_says}
use Rattle.call_reply.proofs.Laws as reply
use Rattle.ask_refusal.specs.declared.Refusal.{Refusal}
use Rattle.ask_refusal.specs.Refusals.{number_of}
use Rattle.ask_refusal.proofs.Laws.{number_not_0}
use Rattle.call_log.specs.Call.{drained_of, tallied_of, drain_call, DoesDrain, tally_call, DoesTally, log_lent, drain_number, tally_number, no_drain, no_tallies, tally_cells, no_cells}

-- ---- The ladders

module _ (s l : List ℕ) where
  pub no_drain_lem : (rows : ℕ) → log_lent s l ≡ false → 1 ≡ drain_number s l rows
  unfolding drain_number
  no_drain_lem rows h = no _ _ _ _ h refl

  pub short_drain : (rows k : ℕ) → log_lent s l ≡ true → k ≡ (sizes_at s).log_slots → rows < k → 1 ≡ drain_number s l rows
  unfolding drain_number
  short_drain rows k h e q = yes _ _ _ _ h (no _ _ _ _ (lt-leb (sizes_at s).log_slots rows (omega (arith, e, q))) refl)

  pub may_drain : (rows k : ℕ) → log_lent s l ≡ true → k ≡ (sizes_at s).log_slots → k ≤ rows → 0 ≡ drain_number s l rows
  unfolding drain_number
  may_drain rows k h e q = yes _ _ _ _ h (yes _ _ _ _ (le-leb (sizes_at s).log_slots rows (omega (arith, e, q))) refl)

  pub no_tally_lem : (class : ℕ) → log_lent s l ≡ false → 1 ≡ tally_number s l class
  unfolding tally_number
  no_tally_lem class h = no _ _ _ _ h refl

  pub far_tally : (class k : ℕ) → log_lent s l ≡ true → k ≡ (sizes_at s).classes → k ≤ class → 5 ≡ tally_number s l class
  unfolding tally_number
  far_tally class k h e q = yes _ _ _ _ h (no _ _ _ _ (le-ltb class (sizes_at s).classes (omega (arith, e, q))) refl)

  pub may_tally : (class k : ℕ) → log_lent s l ≡ true → k ≡ (sizes_at s).classes → class < k → 0 ≡ tally_number s l class
  unfolding tally_number
  may_tally class k h e q = yes _ _ _ _ h (yes _ _ _ _ (lt-ltb class (sizes_at s).classes (omega (arith, e, q))) refl)

  -- ---- What a passed ladder says

  pub record Held : Type 0 where
    pub setup : PassedSetup s
    pub log : PassedLog s l

  holds : log_lent s l ≡ true → Held
  unfolding log_lent
  holds h = let q = both (setup_held s) _ h in record { setup = setup_says_lem s q.0; log = log_says s l (only _ q.1) }

  two : (x y : Bool) (k r : ℕ) → (k ≡ 0 → ⊥) → r ≡ cond x (cond y 0 k) 1 → r ≡ 0 → (x ≡ true) × (y ≡ true)
  two true true k r n p q = (refl, refl)
  two true false k r n p q = absurd (n (sym p ∙ q))
  two false y k r n p q = absurd (omega arith)

  pub drain_held : (rows r : ℕ) → r ≡ drain_number s l rows → r ≡ 0 → Held × ((sizes_at s).log_slots ≤ rows)
  unfolding drain_number
  drain_held rows r p q =
      let h = two (log_lent s l) (leb (sizes_at s).log_slots rows) 1 r (λ z. omega arith) p q in
      (holds h.0, leb-true (sizes_at s).log_slots rows h.1)

  pub tally_held : (class r : ℕ) → r ≡ tally_number s l class → r ≡ 0 → Held
  unfolding tally_number
  tally_held class r p q = holds (two (log_lent s l) (ltb class (sizes_at s).classes) 5 r (λ z. omega arith) p q).0

-- ---- The tallies

-- the cells before the records are the tallies, class by class
pub cells_held : (l now : List ℕ) → records_at ≤ length l → now ≡ take (classes * tally_width) (drop tallies_at l) ++ drop (classes * tally_width) no_cells → now ≡ tally_cells (tallies_of l)
unfolding tally_cells
cells_held l now h e =
    let long : classes * tally_width ≤ length (drop tallies_at l) = simp length-drop (omega arith) in
    e ∙ append-nil (take (classes * tally_width) (drop tallies_at l)) ∙ sym (flat_rows tally_form tally_exact classes (drop tallies_at l) long)

-- ---- The drain

module _ (s l out : List ℕ) where
  drain_number_lem : (T : Tables) → drain_number s l (length out / delivery.width) ≡ (call_reply (lend_log T s l) (drain_call out)).number
  unfolding drain_number log_lent setup_held log_held
  drain_number_lem T = refl

  pub drain_refused : (e : Refusal) → number_of e ≡ drain_number s l (length out / delivery.width) → DoesDrain s l l (no_drain (number_of e)) out out
  unfolding DoesDrain tally_cells
  drain_refused e q = λ T.
      let same = q ∙ drain_number_lem T in
      let still = reply.silenced (lend_log T s l) (drain_call out) (number_of e) same (number_not_0 e) in (
        ap drained_of (sym still),
        reply.stays (lend_log T s l) (drain_call out) (number_of e) same (number_not_0 e),
        sym (ap (λ (a : Reply). output_of a.answer ++ drop (length (output_of a.answer)) out) still),
      )

  module _ (q : 0 ≡ drain_number s l (length out / delivery.width)) where
    held : Held s l × ((sizes_at s).log_slots ≤ length out / delivery.width)
    held = drain_held s l (length out / delivery.width) 0 q refl

    pub head_room : records_at ≤ length l
    head_room = omega (arith, held.0.log.size)

    pub setup_long : length s ≡ setup_width
    setup_long = held.0.setup.size

    pub drain_room : ((sizes_at s).log_slots ≤ most) × (size_of (sizes_at s).log_slots ≤ length l) × ((sizes_at s).log_slots * delivery.width ≤ length out)
    drain_room =
        let o : (sizes_at s).log_slots * delivery.width ≤ length out / delivery.width * delivery.width = mul-le-mul_right delivery.width held.1 in
        (held.0.setup.sizes.log_slots, omega (arith, held.0.log.size), omega (arith, o, div-mul-le_self (length out) delivery.width))

    sound : sound_log (sizes_at s).log_slots l ≡ true
    sound = log_sound (sizes_at s).log_slots l held.0.log.sound

    copied : over delivery.form (records_of (sizes_at s).log_slots l) out
        ≡ flat delivery.words (records_of (sizes_at s).log_slots l) ++ drop (length (flat delivery.words (records_of (sizes_at s).log_slots l))) out
    unfolding over
    copied = ap (λ (i : ℕ). flat delivery.words (records_of (sizes_at s).log_slots l) ++ drop i out) (sym (length_words delivery.form delivery-laws.exact (records_of (sizes_at s).log_slots l)))

    many : length (records_of (sizes_at s).log_slots l) ≡ count_at 0 l
    many = length_from (slot_at delivery.form (sizes_at s).log_slots 0 records_at l) (sizes_at s).log_slots (first_at 0 l) 0 (count_at 0 l)

    pub drain_done : (k f : ℕ) (ts l' out' : List ℕ) → f ≡ get_or l forced_at 0 → ts ≡ tally_cells (tallies_of l) → k ≡ cond (sound_log (sizes_at s).log_slots l) (count_at 0 l) 0
        → out' ≡ cond (sound_log (sizes_at s).log_slots l) (over delivery.form (records_of (sizes_at s).log_slots l) out) out → l' ≡ cond (sound_log (sizes_at s).log_slots l) (cleared_at l) l
        → DoesDrain s l l' (record { number = 0; records = k; forced = f; tallies = ts }) out out'
    unfolding DoesDrain
    drain_done k f ts l' out' ef et ek eo el = λ T.
        let same = q ∙ drain_number_lem T in
        let told = reply.answered (lend_log T s l) (drain_call out) 0 same refl in
        let n : k ≡ length (records_of (sizes_at s).log_slots l) = ek ∙ ap (λ (b : Bool). cond b (count_at 0 l) 0) sound ∙ sym many in
        let c : l' ≡ cleared_at l = el ∙ ap (λ (b : Bool). cond b (cleared_at l) l) sound in (
          (λ j. record { number = 0; records = n j; forced = ef j; tallies = et j }) ∙ sym (ap drained_of told),
          reply.steps (lend_log T s l) (drain_call out) 0 same refl ∙ ap (lend_log T s) (sym c),
          eo ∙ ap (λ (b : Bool). cond b (over delivery.form (records_of (sizes_at s).log_slots l) out) out) sound ∙ copied
              ∙ sym (ap (λ (a : Reply). output_of a.answer ++ drop (length (output_of a.answer)) out) told),
        )

-- ---- The tally

module _ (s l : List ℕ) (class : ℕ) where
  tally_number_lem : (T : Tables) → tally_number s l class ≡ (call_reply (lend_log T s l) (tally_call class)).number
  unfolding tally_number log_lent setup_held log_held
  tally_number_lem T = refl

  pub tally_refused : (e : Refusal) → number_of e ≡ tally_number s l class → DoesTally s l class (no_tallies (number_of e))
  unfolding DoesTally
  tally_refused e q = λ T.
      let same = q ∙ tally_number_lem T in (
        ap tallied_of (sym (reply.silenced (lend_log T s l) (tally_call class) (number_of e) same (number_not_0 e))),
        reply.stays (lend_log T s l) (tally_call class) (number_of e) same (number_not_0 e),
      )

  module _ (q : 0 ≡ tally_number s l class) where
    pub tally_room : records_at ≤ length l
    tally_room = omega (arith, (tally_held s l class 0 q refl).log.size)

    pub tally_done : (t : Tally) → t ≡ tally_at l class → DoesTally s l class (record { number = 0; deliveries = t.deliveries; bytes = t.bytes })
    unfolding DoesTally tally_at
    tally_done t e = λ T.
        let same = q ∙ tally_number_lem T in (
          ap (λ (x : Tally). tallied_of (record { number = 0; answer = tallied x })) e ∙ sym (ap tallied_of (reply.answered (lend_log T s l) (tally_call class) 0 same refl)),
          reply.steps (lend_log T s l) (tally_call class) 0 same refl,
        )
