-- The turns one after the other. Assumes nothing.
use Prim.Native.Nat.{ℕ, suc, ◌+◌, ◌≤◌, ◌<◌}
use mathlib.Core.Path.{◌≡◌, refl, sym, ap, subst, ◌∙◌}
use mathlib.Core.Bool.{Bool, true, false}
use mathlib.Core.List.{List, [], ◌∷◌}
use native.Mathlib.Omega.{arith}
use lib.Dec.{ltb}
use lib.ListN.{length, get_or, length-take, get_or-eq_default, drop}
use borrow.Author.Tests.{lt-ltb, le-leb, ltb-true, ltb-false}
use Rattle.table_rows.proofs.Lists.{get_d_up_to, length_up_to}
use Rattle.table_rows.proofs.Rows.{length_rows}
use Rattle.table_marks.specs.Marks.{found, ids_of}
use Rattle.table_marks.proofs.Search.{length_ids}
use Rattle.table_rings.specs.Rings.{entries, entry_of, none}
use Rattle.table_rings.proofs.Laws.{get_oldest}
use Rattle.table_waiting.specs.Waiting as queue
use Rattle.spec_network.specs.Opening.{Opening, Sizes, link, longest_wire, most_words}
use Rattle.spec_network.specs.Live.{Live, Carried, ids_at, marked, stopped, rings_of}
use Rattle.spec_network.specs.Tables.{cell, Tables, live, sizes_at, ids_start, waiting_at, sequence_at, fault_words_at}
use Rattle.spec_network.specs.Real.{opening_at}
use Rattle.spec_network.specs.Accept.{Drawn, drawn, sent, fate_of, offered, effect}
use Rattle.spec_network.specs.Writes.{set_log, offered_t}
use Rattle.spec_book.proofs.Formed.{Formed}
use Rattle.spec_book.proofs.Fitting.{NearMessage}
use Rattle.spec_book.proofs.Sound.{sent_unmarked}
use Rattle.spec_network.specs.Lending.{lend_serve}
use Rattle.call_offer.specs.declared.Outgoing.{Outgoing}
use Rattle.call_offer.specs.declared.Offer.TheVariants.{Sent}
use Rattle.call_offer.specs.declared.Sending.{Sending}
use Rattle.call_offer.specs.Needed.{Fixed, Ranged}
use Rattle.call_offer.specs.Offering.{as_message, selects_at, Answers}
use Rattle.call_offer.proofs.Readings.{marked_is, marks_in_lem, ring_below}
use Rattle.call_schedule.specs.Writing.{Sendable}
use Rattle.call_recipients.specs.Turning.{remaining, AdmittedFrom}
use Rattle.call_recipients.proofs.Simulated.{quiet, quiet_formed, after_formed, after_live}
use Rattle.call_recipients.proofs.Stepping.{rest_on, rest_off, Step, stepped, decided}

module _ (L : Tables) (setup net tills words keys prices seen waiting rings rules blocks : List ℕ) (m : Outgoing) (to : ℕ)
    (F : Fixed setup tills keys prices blocks) (R : Ranged setup m) (G : AdmittedFrom setup net tills words seen waiting rings rules m to) (b : to < (sizes_at setup).tills) where
  abbrev T : Tables
  T = lend_serve L setup net tills words keys prices seen waiting rings rules blocks

  abbrev z : Sizes
  z = sizes_at setup

  abbrev o : Opening
  o = opening_at T

  abbrev s : Live
  s = live z T

  abbrev q : ℕ → Bool
  q t = selects_at tills m.scope m.from t

  -- a till's marks as the table has them
  ids_of_lem : (t : ℕ) → t < z.tills → ids_at s t ≡ ids_of seen (ids_start z t) (cell seen t)
  ids_of_lem t h = get_d_up_to z.tills (λ k. ids_of seen (ids_start z k) (cell seen k)) t [] h

  module _ (chosen : q to ≡ true) where
    more : remaining setup tills m to ≡ to ∷ remaining setup tills m (to + 1)
    more = rest_on q z.tills to b chosen

    one_more : length (remaining setup tills m to) ≡ suc (length (remaining setup tills m (to + 1)))
    one_more = ap length more

    -- a till that is sent to has a free slot
    pub free_slot : fate_of o (as_message m) s to ≡ sent → cell seen to < z.seen_slots
    free_slot e =
        let d : Drawn = drawn o (as_message m) to s in
        let f : marked s to m.id ≡ false = sent_unmarked (marked s to m.id) (stopped s m.from to m.now) d.loss.value d.verdict.drops e in
        G.free to (omega arith) b chosen (sym (marked_is T to m.id b) ∙ f)

    pub can_send : (x : Sending) → Answers o (as_message m) s to (Sent x) → Sendable setup net words seen waiting rings m to x
    unfolding Answers
    can_send x a = record {
      setup_size = F.priced.size;
      types = F.types;
      tills = F.priced.tills;
      ranged = R;
      below = b;
      net_size = G.state.net_size;
      words_size = G.state.words_size;
      seen_held = G.state.seen_held;
      slot = free_slot a.0;
      room = record { size = omega (arith, G.state.net_size); numbers = omega (arith, G.numbers, one_more); slots = omega (arith, G.slots, one_more, G.waiting_size) };
      rings_held = G.state.rings_held;
      soon = a.1.below;
      first = a.1.echoes.first;
      second = a.1.echoes.second;
    }

    module _ (class : m.class < z.classes) where
      near : NearMessage z (as_message m)
      near = record {
        from = lt-ltb m.from z.tills R.from;
        kind = lt-ltb m.kind z.types R.kind;
        class = lt-ltb m.class z.classes class;
        ring = ring_below z m.kind m.scope R.kind R.scope;
        wire = le-leb m.wire longest_wire R.wire;
      }

      formed : Formed z (set_log T (quiet z))
      formed = record {
        net = record { size = G.state.net_size; waiting = omega (arith, G.slots); rules = G.state.rules_used; blocks = G.state.blocks_used };
        tills = F.tills_size;
        words = G.state.words_size;
        seen = record { size = G.state.seen_held.size; counts = G.state.seen_held.counts };
        waiting = G.waiting_size;
        rings = record { size = G.state.rings_held.size; heads = G.state.rings_held.heads };
        rules = G.state.rules_size;
        blocks = F.blocks_size;
        log = quiet_formed z;
      }

      slot : fate_of o (as_message m) s to ≡ sent → length (ids_at s to) < z.seen_slots
      slot e = omega (arith, free_slot e, ap length (ids_of_lem to b), length-take (cell seen to) (drop (ids_start z to) seen))

      room : cell net waiting_at + 3 ≤ z.wait_slots
      room = omega (arith, G.slots, one_more)

      abbrev T' : Tables
      T' = offered_t o (as_message m) T to

      pub live_after_lem : live z T' ≡ offered o (as_message m) s to
      live_after_lem = after_live o (as_message m) near T to formed b slot room

      F' : Formed z (set_log T' (quiet z))
      F' = after_formed o (as_message m) near T to formed b slot room

      abbrev s' : Live
      s' = effect o (as_message m) (fate_of o (as_message m) s to) s (drawn o (as_message m) to s) to

      here : live z T' ≡ s'
      unfolding offered
      here = live_after_lem

      step : Step o (as_message m) s s' to
      step = stepped o (as_message m) s to (fate_of o (as_message m) s to)

      -- entries as the rings have them
      entry_of_lem : (r k : ℕ) → (get_or (get_or s.rings r []) k none).wire ≤ longest_wire
      entry_of_lem r k = go (ltb r (rings_of z)) refl
        where
          go : (x : Bool) → ltb r (rings_of z) ≡ x → (get_or (get_or s.rings r []) k none).wire ≤ longest_wire
          go true e =
              let h : r < rings_of z = ltb-true r (rings_of z) e in
              let p : get_or (get_or s.rings r []) k none ≡ entry_of (rings_of z) rings r k =
              ap (λ (l : List Carried). get_or l k none) (get_d_up_to (rings_of z) (entries (rings_of z) rings) r [] h) ∙ sym (get_oldest (rings_of z) rings r k (G.state.rings_held.heads r h)) in
              subst (λ (y : Carried). y.wire ≤ longest_wire) (sym p) (G.state.rings_held.near r k h)
          go false e =
              let p : get_or s.rings r [] ≡ [] = get_or-eq_default s.rings [] (omega (arith, ltb-false r (rings_of z) e, length_up_to (rings_of z) (entries (rings_of z) rings))) in
              subst (λ (l : List Carried). (get_or l k none).wire ≤ longest_wire) (sym p) (omega arith)

      rings_near_lem : (r k : ℕ) → r < rings_of z → (entry_of (rings_of z) T'.rings r k).wire ≤ longest_wire
      rings_near_lem r k h =
          let p : entry_of (rings_of z) T'.rings r k ≡ get_or (get_or s'.rings r []) k none =
          get_oldest (rings_of z) T'.rings r k (F'.rings.heads r h)
          ∙ ap (λ (l : List Carried). get_or l k none) (sym (get_d_up_to (rings_of z) (entries (rings_of z) T'.rings) r [] h) ∙ ap (λ (x : Live). get_or x.rings r []) here) in
          subst (λ (y : Carried). y.wire ≤ longest_wire) (sym p) (step.near longest_wire R.wire entry_of_lem r k)

      decisions' : cell T'.net fault_words_at ≤ cell net fault_words_at + 128
      decisions' = omega (arith, ap (λ (x : Live). x.engine.words) here, decided T (as_message m) to (fate_of o (as_message m) s to), G.state.rules_used)

      numbers' : cell T'.net sequence_at ≤ cell net sequence_at + 3
      numbers' = omega (arith, ap (λ (x : Live). x.queue.sequence) here, step.sequence)

      slots' : cell T'.net waiting_at ≤ cell net waiting_at + 3
      slots' =
          let a = length_rows queue.width queue.read (cell T'.net waiting_at) T'.waiting in
          let c = length_rows queue.width queue.read (cell net waiting_at) waiting in
          omega (arith, ap (λ (x : Live). length x.queue.waiting) here, step.waiting)

      -- the marks of another till
      other : (t : ℕ) → t < z.tills → (t ≡ to → ⊥) → ids_of T'.seen (ids_start z t) (cell T'.seen t) ≡ ids_of seen (ids_start z t) (cell seen t)
      other t h n =
          sym (get_d_up_to z.tills (λ k. ids_of T'.seen (ids_start z k) (cell T'.seen k)) t [] h)
          ∙ ap (λ (x : Live). ids_at x t) here ∙ step.seen t n ∙ ids_of_lem t h

      count_same : (t : ℕ) → t < z.tills → (t ≡ to → ⊥) → cell T'.seen t ≡ cell seen t
      count_same t h n =
          let i = marks_in_lem t z.tills z.seen_slots h in
          sym (length_ids T'.seen (ids_start z t) (cell T'.seen t) 0 (omega (arith, F'.seen.size, F'.seen.counts t h)))
          ∙ ap length (other t h n)
          ∙ length_ids seen (ids_start z t) (cell seen t) 0 (omega (arith, G.state.seen_held.size, G.state.seen_held.counts t h))

      pub goes_on : AdmittedFrom setup T'.net tills T'.words T'.seen T'.waiting T'.rings T'.rules m (to + 1)
      goes_on = record {
        state = record {
          net_size = F'.net.size;
          rules_used = F'.net.rules;
          blocks_used = F'.net.blocks;
          fault_words = omega (arith, decisions', G.decisions, one_more);
          words_size = F'.words;
          seen_held = record { size = F'.seen.size; counts = F'.seen.counts };
          rings_held = record { size = F'.rings.size; heads = F'.rings.heads; near = rings_near_lem };
          rules_size = F'.rules;
        };
        waiting_size = F'.waiting;
        decisions = omega (arith, decisions', G.decisions, one_more);
        fresh = λ t l h e. subst (λ (n : ℕ). n < most_words) (sym (ap (λ (x : Live). get_or x.words (link m.from t) 0) here ∙ step.words t (λ u. omega arith))) (G.fresh t (omega arith) h e);
        numbers = omega (arith, numbers', G.numbers, one_more);
        free = λ t l h e f. (let n = count_same t h (λ u. omega arith) in let k = G.free t (omega arith) h e (ap (found m.id) (sym (other t h (λ u. omega arith))) ∙ f) in omega arith);
        slots = omega (arith, slots', G.slots, one_more);
      }

  module _ (passed : q to ≡ false) where
    same_left : remaining setup tills m to ≡ remaining setup tills m (to + 1)
    same_left = rest_off q z.tills to b passed

    pub passes_on : AdmittedFrom setup net tills words seen waiting rings rules m (to + 1)
    passes_on = record {
      state = G.state;
      waiting_size = G.waiting_size;
      decisions = omega (arith, G.decisions, ap length same_left);
      fresh = λ t l h e. G.fresh t (omega arith) h e;
      numbers = omega (arith, G.numbers, ap length same_left);
      free = λ t l h e f. G.free t (omega arith) h e f;
      slots = omega (arith, G.slots, ap length same_left);
    }
