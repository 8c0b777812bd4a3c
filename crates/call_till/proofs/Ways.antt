-- The two ways of each call: a number refuses it, or its workers leave what the definitions say. Assumes nothing.
use mathlib.Core.Path.{◌≡◌, refl, sym, ap, ◌∙◌}
use mathlib.Core.Bool.{Bool, true, false, not}
use mathlib.Core.List.{List, [], ◌∷◌, ◌++◌}
use Prim.Native.Nat.{ℕ, ◌*◌, ◌<◌}
use native.Mathlib.Omega.{arith}
use lib.Dec.{eqb}
use lib.ListN.{length, get_or, set, take, drop, length-drop}
use lib.Seq.{length-take-le}
use Rattle.table_shift.specs.Shift.{put_words}
use Rattle.table_rows.specs.Table.{rows_of}
use Rattle.table_rows.proofs.Table.{row_at}
use Rattle.table_rows.proofs.Lists.{get_d_up_to}
use Rattle.table_marks.specs.Marks.{ids_of, listed}
use Rattle.table_marks.proofs.Ordered.{length_listed}
use Rattle.table_marks.proofs.Both.{copied_listed}
use Rattle.spec_network.specs.Lists.{bit}
use Rattle.spec_network.specs.Live.{Till, down_till, ids_at}
use Rattle.spec_network.specs.Calls.{Call, take_down, bring_up, handlers, reading, is_down, marks_of, number, answer_of, with_handlers, ids}
use Rattle.spec_network.specs.Tables.{Tables, cell, sizes_at, live, till_form, ids_start}
use Rattle.spec_network.specs.Real.{opening_at}
use Rattle.spec_network.specs.Lending.{lend_tills, lend_seen, lend_tills_seen}
use Rattle.spec_network.specs.Writes.{Reply, call_reply, step_t, output_of}
use Rattle.ask_tables.specs.declared.Till as row
use Rattle.ask_tables.specs.TillRow.{form, live_till}
use Rattle.ask_tables.specs.Held.{setup_held, tills_held, seen_held}
use Rattle.call_reply.specs.declared.Value.{Value}
use Rattle.call_reply.specs.Reply.{refused_by, answered_by}
use Rattle.call_reply.proofs.Laws as reply
use Rattle.call_till.specs.Calls.{DoesTakeDown, Changes, DoesIsDown, DoesMarksOf, marks_reply}
use Rattle.ask_till.specs.Questions.{tills_lent, seen_lent, both_lent, down_number, read_number, up_number, handlers_number, marks_number}
use Rattle.call_till.proofs.Laws.{Room, marks_room, put_none}

-- ---- take_down

module _ (s a m : List ℕ) (t r : ℕ) (e : r ≡ down_number s a m t) where
  down_number_lem : (T : Tables) → r ≡ (call_reply (lend_tills_seen T s a m) (take_down t)).number
  unfolding down_number both_lent setup_held tills_held seen_held
  down_number_lem T = e

  pub down_refused : (r ≡ 0 → ⊥) → DoesTakeDown s a m a m t (record { number = r })
  unfolding DoesTakeDown
  down_refused h = λ T. (reply.done_refused (lend_tills_seen T s a m) (take_down t) r (down_number_lem T) h, reply.stays (lend_tills_seen T s a m) (take_down t) r (down_number_lem T) h)

  pub down_done : r ≡ 0 → (a' m' : List ℕ) → a' ≡ put_words a (t * till_form.width) (0 ∷ 0 ∷ 0 ∷ 0 ∷ []) → m' ≡ set m t 0 → DoesTakeDown s a m a' m' t (record { number = 0 })
  unfolding DoesTakeDown
  down_done h a' m' p q = λ T.
      let gone : set (put_words m (ids_start (sizes_at s) t) []) t 0 ≡ m' = ap (λ (l : List ℕ). set l t 0) (put_none m (ids_start (sizes_at s) t)) ∙ sym q in (
        reply.done (lend_tills_seen T s a m) (take_down t) r (down_number_lem T) h,
        reply.steps (lend_tills_seen T s a m) (take_down t) r (down_number_lem T) h
            ∙ ap (λ (l : List ℕ). lend_tills_seen T s (put_words a (t * till_form.width) (0 ∷ 0 ∷ 0 ∷ 0 ∷ [])) l) gone ∙ ap (λ (l : List ℕ). lend_tills_seen T s l m') (sym p),
      )

-- ---- The calls that write `tills` alone

module _ (c : Call) (s a : List ℕ) (r : ℕ) (same : (T : Tables) → r ≡ (call_reply (lend_tills T s a) c).number) where
  refused_by_lem : (r ≡ 0 → ⊥) → Changes s a a c (record { number = r })
  unfolding Changes
  refused_by_lem h = λ T. (reply.done_refused (lend_tills T s a) c r (same T) h, reply.stays (lend_tills T s a) c r (same T) h)

  changed_by : r ≡ 0 → (a' : List ℕ) → ((T : Tables) → step_t (opening_at (lend_tills T s a)) (lend_tills T s a) c ≡ lend_tills T s a') → Changes s a a' c (record { number = 0 })
  unfolding Changes
  changed_by h a' step = λ T. (reply.done (lend_tills T s a) c r (same T) h, reply.steps (lend_tills T s a) c r (same T) h ∙ step T)

module _ (s a : List ℕ) (t shards r : ℕ) (e : r ≡ up_number s a t shards) where
  up_number_lem : (T : Tables) → r ≡ (call_reply (lend_tills T s a) (bring_up t shards)).number
  unfolding up_number tills_lent setup_held tills_held
  up_number_lem T = e

  pub up_refused : (r ≡ 0 → ⊥) → Changes s a a (bring_up t shards) (record { number = r })
  up_refused h = refused_by_lem (bring_up t shards) s a r up_number_lem h

  pub up_done : r ≡ 0 → (a' : List ℕ) → a' ≡ put_words a (t * till_form.width) (1 ∷ 0 ∷ 0 ∷ shards ∷ []) → Changes s a a' (bring_up t shards) (record { number = 0 })
  up_done h a' p = changed_by (bring_up t shards) s a r up_number_lem h a' (λ T. ap (lend_tills T s) (sym p))

-- the row of a till that exists
till_row_lem : (s a : List ℕ) (t : ℕ) → t < (sizes_at s).tills → (x : row.Till) → x ≡ form.read (drop (t * till_form.width) a) →
    get_or (rows_of till_form a (sizes_at s).tills) t down_till ≡ live_till x
till_row_lem s a t h x e = row_at till_form a (sizes_at s).tills t down_till h ∙ ap live_till (sym e)

module _ (s a : List ℕ) (t gossip host r : ℕ) (e : r ≡ handlers_number s a t gossip host) where
  handlers_number_lem : (T : Tables) → r ≡ (call_reply (lend_tills T s a) (handlers t gossip host)).number
  unfolding handlers_number tills_lent setup_held tills_held
  handlers_number_lem T = e

  pub handlers_refused : (r ≡ 0 → ⊥) → Changes s a a (handlers t gossip host) (record { number = r })
  handlers_refused h = refused_by_lem (handlers t gossip host) s a r handlers_number_lem h

  pub handlers_done : r ≡ 0 → Room s a t → (x : row.Till) → x ≡ form.read (drop (t * till_form.width) a) → (a' : List ℕ)
      → a' ≡ put_words a (t * till_form.width) (x.up ∷ gossip ∷ host ∷ x.shards ∷ []) → Changes s a a' (handlers t gossip host) (record { number = 0 })
  handlers_done h k x e a' p =
      changed_by (handlers t gossip host) s a r handlers_number_lem h a'
      (λ T. ap (λ (x : Till). lend_tills T s (put_words a (t * till_form.width) (till_form.words (with_handlers x gossip host)))) (till_row_lem s a t k.there x e) ∙ ap (lend_tills T s) (sym p))

-- ---- is_down

twice : (b : Bool) → not (not b) ≡ b
twice true = refl
twice false = refl

module _ (s a : List ℕ) (t r : ℕ) (e : r ≡ read_number s a t) where
  ask_number : (T : Tables) → r ≡ (call_reply (lend_tills T s a) (reading (is_down t))).number
  unfolding read_number tills_lent setup_held tills_held
  ask_number T = e

  pub ask_refused : (v : Value) → v ≡ refused_by r → (r ≡ 0 → ⊥) → DoesIsDown s a t v
  unfolding DoesIsDown
  ask_refused v q h = λ T.
      (q ∙ reply.value_refused (lend_tills T s a) (reading (is_down t)) r (ask_number T) h, reply.stays (lend_tills T s a) (reading (is_down t)) r (ask_number T) h)

  pub ask_done : r ≡ 0 → Room s a t → (x : row.Till) → x ≡ form.read (drop (t * till_form.width) a) → DoesIsDown s a t (answered_by (bit (eqb x.up 0)))
  unfolding DoesIsDown
  ask_done h k x q = λ T.
      let down : Bool = eqb x.up 0 in
      let here : answer_of (opening_at (lend_tills T s a)) (live (sizes_at s) (lend_tills T s a)) (reading (is_down t)) ≡ number 1 (bit down)
      = ap (λ (x : Till). number 1 (bit (not (not (eqb x.up 0))))) (till_row_lem s a t k.there x q) ∙ ap (λ (b : Bool). number 1 (bit b)) (twice down) in
      (reply.value (lend_tills T s a) (reading (is_down t)) r (ask_number T) h 1 (bit down) here, reply.steps (lend_tills T s a) (reading (is_down t)) r (ask_number T) h)

-- ---- marks_of

module _ (s m out : List ℕ) (t r : ℕ) (e : r ≡ marks_number s m (length out) t) where
  abbrev call : Call
  call = reading (marks_of t (length out))

  marks_number_lem : (T : Tables) → r ≡ (call_reply (lend_seen T s m) call).number
  unfolding marks_number seen_lent setup_held seen_held
  marks_number_lem T = e

  abbrev out_by : Reply → List ℕ
  out_by q = let new = output_of q.answer in new ++ drop (length new) out

  pub marks_refused : (r ≡ 0 → ⊥) → DoesMarksOf s m t (record { number = r; count = 0 }) out out
  unfolding DoesMarksOf
  marks_refused h = λ T.
      let x = reply.silenced (lend_seen T s m) call r (marks_number_lem T) h in
      (ap marks_reply (sym x), reply.stays (lend_seen T s m) call r (marks_number_lem T) h, ap out_by (sym x))

  pub marks_done : r ≡ 0 → (copied out' : List ℕ) → copied ≡ ids_of m (ids_start (sizes_at s) t) (cell m t) ++ drop (cell m t) out
      → out' ≡ listed (take (cell m t) copied) ++ drop (cell m t) copied → DoesMarksOf s m t (record { number = 0; count = cell m t }) out out'
  unfolding DoesMarksOf
  marks_done h copied out' p q = λ T.
      let k = marks_room s m (length out) t (sym e ∙ h) in
      let z = sizes_at s in
      let own = ids_of m (ids_start z t) (cell m t) in
      let is = listed (ids_of m (ids_start z t) (cell m t)) in
      let d = length-drop (ids_start z t) m in
      let few : length (ids_of m (ids_start z t) (cell m t)) ≡ cell m t = length-take-le (cell m t) (drop (ids_start z t) m) (omega (arith, k.end, d)) in
      let long : length (listed (ids_of m (ids_start z t) (cell m t))) ≡ cell m t = length_listed (ids_of m (ids_start z t) (cell m t)) ∙ few in
      let at : ids_at (live z (lend_seen T s m)) t ≡ own = get_d_up_to z.tills (λ i. ids_of m (ids_start z i) (cell m i)) t [] k.there in
      let x : call_reply (lend_seen T s m) call ≡ record { number = 0; answer = ids is }
      = reply.answered (lend_seen T s m) call r (marks_number_lem T) h ∙ ap (λ (l : List ℕ). record { number = 0; answer = ids (listed l) }) at in (
        ap (λ (n : ℕ). record { number = 0; count = n }) (sym long) ∙ ap marks_reply (sym x),
        reply.steps (lend_seen T s m) call r (marks_number_lem T) h,
        copied_listed (ids_of m (ids_start z t) (cell m t)) out copied out' (cell m t) few p q ∙ ap (λ (n : ℕ). is ++ drop n out) (sym long) ∙ ap out_by (sym x),
      )
