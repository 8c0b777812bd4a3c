-- What an offer writes is what `Writes` says of its class and its draws. Assumes nothing.
use Prim.Native.Nat.{ℕ, suc, ◌≤◌, ◌<◌}
use mathlib.Core.Path.{◌≡◌, refl, sym, ap, ◌∙◌}
use mathlib.Core.Bool.{Bool, true, false, cond}
use Rattle.std.specs.Prelude.{Option, Some}
use mathlib.Core.List.{List, [], ◌∷◌}
use native.Mathlib.Omega.{arith}
use lib.ListN.{length, set, length-set}
use lib.Seq.{get_or-set_other}
use Rattle.table_rows.proofs.Lists.{get_d_up_to}
use Rattle.table_marks.specs.Marks.{ids_of, placed}
use Rattle.fault_rules.specs.Rules.{fire_table}
use Rattle.fault_decide.specs.Decide.{Decision}
use Rattle.table_waiting.specs.declared.Copy.{Copy}
use Rattle.table_rings.specs.Rings.{number_of, pushed}
use Rattle.spec_network.specs.Opening.{Opening, Sizes, link}
use Rattle.spec_network.specs.Live.{ids_at, rings_of}
use Rattle.spec_network.specs.Tables.{cell, Tables, live, sizes_at, settings_at, ids_start, sequence_at, fault_words_at}
use Rattle.spec_network.specs.Real.{draws_of, opening_at}
use Rattle.spec_network.specs.Accept as accept
use Rattle.spec_network.specs.Accept.{Drawn, drawn, original, echo_copies, carried_of, Fate, sent, fate_of, add}
use Rattle.spec_network.specs.Writes.{set_rings, set_rules, words_t, net_t, ruled_t, marks_t, push_t, remember_t, effect_t, offered_t}
use Rattle.spec_network.specs.Lending.{lend_apply, lend_send, set_rules}
use Rattle.call_offer.specs.declared.Outgoing.{Outgoing}
use Rattle.call_offer.specs.declared.Faulted.{Faulted}
use Rattle.call_offer.specs.declared.Sending.{Sending}
use Rattle.call_offer.specs.declared.Offer.{Offer}
use Rattle.call_offer.specs.declared.Offer.TheVariants.{Deduplicated, Partition, Loss, Fault, Sent}
use Rattle.call_offer.specs.Offering.{as_message, echoes_in, Answers}
use Rattle.call_schedule.specs.declared.Counts.{Counts}
use Rattle.call_schedule.specs.Writing.{marked_seen, pushed_net, pushed_waiting, echo_in, remembered, sent_t, offer_t, Sends, Applies, fate_in, counts_of}
use Rattle.call_schedule.proofs.Pushing.{after, push_copies}

-- ---- Sent

module _ (T : Tables) (m : accept.Message) (t : ℕ) (x : Sending) (below : t < (sizes_at T.setup).tills) (size : 2 ≤ length T.net) where
  abbrev o : Opening
  o = opening_at T

  abbrev z : Sizes
  z = sizes_at T.setup

  abbrev ids : List ℕ
  ids = placed m.id (ids_of T.seen (ids_start z t) (cell T.seen t))

  -- word counts and the mark
  abbrev T₂ : Tables
  T₂ = marks_t z (net_t (words_t T (link m.from t) x.echoes.words) fault_words_at x.fault) t ids

  abbrev first : Copy
  first = original m t 0 x.latency

  abbrev T₅ : Tables
  T₅ = after (after (after T₂ (Some first)) (echo_in m t x.echoes.duplicate)) (echo_in m t x.echoes.replay)

  ids_are : placed m.id (ids_at (live z T) t) ≡ ids
  ids_are = ap (placed m.id) (get_d_up_to z.tills (λ k. ids_of T.seen (ids_start z k) (cell T.seen k)) t [] below)

  same_sequence : cell T.net sequence_at ≡ cell T₂.net sequence_at
  same_sequence = sym (get_or-set_other T.net fault_words_at sequence_at x.fault 0 (λ e. omega arith))

  ring_by : (b : Bool) (T' : Tables) (l : List ℕ) → cond b (set_rings T' l) T' ≡ set_rings T' (cond b l T'.rings)
  ring_by true T' l = refl
  ring_by false T' l = refl

  pub sent_is : sent_t o m T t x ≡ set_rings T₅ (remembered (settings_at T.setup) T.rings m)
  unfolding sent_t draws_of pushed_net pushed_waiting
  sent_is =
      (λ j.
      let n = suc (same_sequence j) in
      remember_t o m (push_t z (marks_t z (net_t (words_t T (link m.from t) x.echoes.words) fault_words_at x.fault) t (ids_are j)) (original m t n x.latency ∷ echo_copies m t n (echoes_in x.echoes))))
      ∙ ap (remember_t o m) (push_copies z T₂ m t x.latency x.echoes.duplicate x.echoes.replay (omega (arith, length-set T.net fault_words_at x.fault)))
      ∙ ring_by o.draws.echoing T₅ (pushed (rings_of z) T₅.rings (number_of m.kind m.scope) (carried_of m))

pub sends : (m : Outgoing) (t : ℕ) (x : Sending) (setup net words seen waiting rings : List ℕ) {seen' n₁ n₂ n₃ w₁ w₂ w₃ rings' : List ℕ} {c₁ : Copy} {c₂ c₃ : Option Copy}
    → t < (sizes_at setup).tills → 2 ≤ length net → seen' ≡ marked_seen (sizes_at setup) seen t m.id
    → c₁ ≡ original (as_message m) t 0 x.latency → n₁ ≡ pushed_net (Some c₁) (set net fault_words_at x.fault) waiting → w₁ ≡ pushed_waiting (Some c₁) (set net fault_words_at x.fault) waiting
    → c₂ ≡ echo_in (as_message m) t x.echoes.duplicate → n₂ ≡ pushed_net c₂ n₁ w₁ → w₂ ≡ pushed_waiting c₂ n₁ w₁
    → c₃ ≡ echo_in (as_message m) t x.echoes.replay → n₃ ≡ pushed_net c₃ n₂ w₂ → w₃ ≡ pushed_waiting c₃ n₂ w₂
    → rings' ≡ remembered (settings_at setup) rings (as_message m) → Sends m t x setup net words seen waiting rings n₃ (set words (link m.from t) x.echoes.words) seen' w₃ rings'
unfolding Sends
sends m t x setup net words seen waiting rings {seen'} {n₁} {n₂} {n₃} {w₁} {w₂} {w₃} {rings'} {c₁} {c₂} {c₃} below size es k₁ p₁ q₁ k₂ p₂ q₂ k₃ p₃ q₃ er = λ L.
    let T = lend_send L setup net words seen waiting rings in
    let net₀ : List ℕ = set net fault_words_at x.fault in
    let P₁ = p₁ ∙ ap (λ (c : Copy). pushed_net (Some c) net₀ waiting) k₁ in
    let Q₁ = q₁ ∙ ap (λ (c : Copy). pushed_waiting (Some c) net₀ waiting) k₁ in
    let P₂ = p₂ ∙ (λ j. pushed_net (k₂ j) (P₁ j) (Q₁ j)) in
    let Q₂ = q₂ ∙ (λ j. pushed_waiting (k₂ j) (P₁ j) (Q₁ j)) in
    let P₃ = p₃ ∙ (λ j. pushed_net (k₃ j) (P₂ j) (Q₂ j)) in
    let Q₃ = q₃ ∙ (λ j. pushed_waiting (k₃ j) (P₂ j) (Q₂ j)) in
    (λ j. lend_send L setup (P₃ j) (set words (link m.from t) x.echoes.words) (es j) (Q₃ j) (er j)) ∙ sym (sent_is T (as_message m) t x below size)

-- ---- The five

module _ (m : Outgoing) (t : ℕ) (r : Offer) (setup net words seen waiting rings rules : List ℕ) where
  pub writes_none : r ≡ Deduplicated → Applies m t r setup net words seen waiting rings rules net words seen waiting rings rules
  unfolding Applies offer_t
  writes_none e = λ L.
      let T = lend_apply L setup net words seen waiting rings rules in ap (offer_t (opening_at T) (as_message m) T t) (sym e)

  pub writes_nothing : r ≡ Partition → Applies m t r setup net words seen waiting rings rules net words seen waiting rings rules
  unfolding Applies offer_t
  writes_nothing e = λ L.
      let T = lend_apply L setup net words seen waiting rings rules in ap (offer_t (opening_at T) (as_message m) T t) (sym e)

  pub writes_loss : (n : ℕ) → r ≡ Loss n → Applies m t r setup net words seen waiting rings rules net (set words (link m.from t) n) seen waiting rings rules
  unfolding Applies offer_t
  writes_loss n e = λ L.
      let T = lend_apply L setup net words seen waiting rings rules in ap (offer_t (opening_at T) (as_message m) T t) (sym e)

  pub writes_fault : (f : Faulted) (rules' : List ℕ) → r ≡ Fault f → rules' ≡ fire_table rules f.place
      → Applies m t r setup net words seen waiting rings rules (set net fault_words_at f.fault) (set words (link m.from t) f.words) seen waiting rings rules'
  unfolding Applies offer_t
  writes_fault f rules' e q = λ L.
      let T = lend_apply L setup net words seen waiting rings rules in
      ap (λ (l : List ℕ). lend_apply L setup (set net fault_words_at f.fault) (set words (link m.from t) f.words) seen waiting rings l) q
      ∙ ap (offer_t (opening_at T) (as_message m) T t) (sym e)

  pub writes_sent : (x : Sending) (net' words' seen' waiting' rings' : List ℕ) → r ≡ Sent x → Sends m t x setup net words seen waiting rings net' words' seen' waiting' rings'
      → Applies m t r setup net words seen waiting rings rules net' words' seen' waiting' rings' rules
  unfolding Applies Sends offer_t
  writes_sent x net' words' seen' waiting' rings' e q = λ L.
      let T = lend_apply L setup net words seen waiting rings rules in q (set_rules L rules) ∙ ap (offer_t (opening_at T) (as_message m) T t) (sym e)

-- THE LAW: an offer writes what its class and its draws say
module _ (o : Opening) (m : accept.Message) (T : Tables) (t : ℕ) where
  abbrev d : Drawn
  d = drawn o m t (live o.sizes T)

  by_class : (c : Fate) → fate_of o m (live o.sizes T) t ≡ c → effect_t o m c T d t ≡ offered_t o m T t
  by_class c e = ap (λ (k : Fate). effect_t o m k T d t) (sym e)

  unruled : (T' : Tables) (v : Decision) → v.drops ≡ false → net_t T' fault_words_at v.words ≡ ruled_t T' v
  unruled T' v e = ap (λ (b : Bool). cond b (set_rules (net_t T' fault_words_at v.words) (fire_table T'.rules v.place)) (net_t T' fault_words_at v.words)) (sym e)

  pub answers_write : (r : Offer) → Answers o m (live o.sizes T) t r → (fate_in r ≡ fate_of o m (live o.sizes T) t) × (offer_t o m T t r ≡ offered_t o m T t)
  unfolding Answers offer_t sent_t
  answers_write Deduplicated a = (sym a, by_class _ a)
  answers_write Partition a = (sym a, by_class _ a)
  answers_write (Loss n) a = (sym a.0, ap (words_t T (link m.from t)) (sym a.1) ∙ by_class _ a.0)
  answers_write (Fault f) a = (sym a.0, (λ j. ruled_t (words_t T (link m.from t) (sym a.1 j)) (sym a.2 j)) ∙ by_class _ a.0)
  answers_write (Sent x) a =
      let s = live o.sizes T in
      let h = a.1 in
      let words : x.echoes.words ≡ d.echoes.words = sym h.echoes.words in
      let t₁ : net_t (words_t T (link m.from t) x.echoes.words) fault_words_at x.fault ≡ ruled_t (words_t T (link m.from t) d.echoes.words) d.verdict =
      (λ j. net_t (words_t T (link m.from t) (words j)) fault_words_at (sym h.words j)) ∙ unruled (words_t T (link m.from t) d.echoes.words) d.verdict h.passed in (
        sym a.0,
        (λ j.
            let n = suc s.queue.sequence in
            remember_t o m (push_t o.sizes (marks_t o.sizes (t₁ j) t (placed m.id (ids_at s t))) (original m t n (sym h.latency j) ∷ echo_copies m t n (sym h.echoes.all j)))) ∙ by_class _ a.0,
      )

-- ---- The counts

pub counted_as_lem : (c n : Counts) (r v : Offer) → r ≡ v → n.sent ≡ (add (fate_in v) (counts_of c)).sent → n.deduplicated ≡ (add (fate_in v) (counts_of c)).deduplicated
    → n.partition ≡ (add (fate_in v) (counts_of c)).partition → n.loss ≡ (add (fate_in v) (counts_of c)).loss → n.fault ≡ (add (fate_in v) (counts_of c)).fault →
    counts_of n ≡ add (fate_in r) (counts_of c)
counted_as_lem c n r v e p q u w y =
    (λ j. record { sent = p j; deduplicated = q j; partition = u j; loss = w j; fault = y j }) ∙ ap (λ (k : Offer). add (fate_in k) (counts_of c)) (sym e)
