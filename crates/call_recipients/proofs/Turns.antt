-- One turn, and all of them. Assumes nothing.
use Prim.Native.Nat.{ℕ, ◌+◌, ◌≤◌, ◌<◌}
use mathlib.Core.Path.{◌≡◌, refl, sym, ap, subst, ◌∙◌}
use mathlib.Core.Bool.{Bool, true, false, cond}
use mathlib.Core.List.{List, [], ◌∷◌}
use native.Mathlib.Omega.{arith}
use Rattle.spec_network.specs.Lists.{bit}
use Rattle.spec_network.specs.Opening.{Opening}
use Rattle.spec_network.specs.Live.{Live}
use Rattle.spec_network.specs.Tables.{Tables, live, sizes_at}
use Rattle.spec_network.specs.Real.{opening_at}
use Rattle.spec_network.specs.Accept.{Fate, deduplicated, partition, loss, fault, sent, fate_of, offered, Counts, booked, tally, no_counts, add, is_fate, total}
use Rattle.spec_network.specs.Writes.{offered_t, accept_t}
use Rattle.spec_network.specs.Lending.{lend_serve, no_tables, set_waiting}
use Rattle.call_offer.specs.declared.Outgoing.{Outgoing}
use Rattle.call_offer.specs.declared.Offer.{Offer}
use Rattle.call_offer.specs.Needed.{Fixed, Ranged}
use Rattle.call_offer.specs.Offering.{as_message, selects_at, Answers, Offers}
use Rattle.call_schedule.specs.declared.Counts as counts
use Rattle.call_schedule.specs.Writing.{Applicable, Applies, fate_in, counts_of}
use Rattle.call_schedule.proofs.Applying.{answers_write}
use Rattle.call_recipients.specs.Turning.{remaining, AdmittedFrom, Turned, Served}
use Rattle.call_recipients.proofs.Stepping.{rest_on, rest_off, rest_end}
use Rattle.call_recipients.proofs.Onward.{can_send, live_after_lem, goes_on, passes_on}

-- ---- One turn

module _ (setup tills keys prices blocks net words seen waiting rings rules : List ℕ) (m : Outgoing) (to : ℕ) where
  pub can_apply : Fixed setup tills keys prices blocks → Ranged setup m → AdmittedFrom setup net tills words seen waiting rings rules m to →
      to < (sizes_at setup).tills → selects_at tills m.scope m.from to ≡ true
      → (r : Offer) → Offers setup net tills words keys prices seen rings rules blocks m to r → Applicable setup net words seen waiting rings m to r
  unfolding Offers
  can_apply F R G b e r a = record {
    sender = omega (arith, R.from, F.priced.tills);
    below = omega (arith, F.priced.tills);
    net_size = G.state.net_size;
    words_size = G.state.words_size;
    sendable = λ x h.
        let T = lend_serve no_tables setup net tills words keys prices seen waiting rings rules blocks in
        can_send no_tables setup net tills words keys prices seen waiting rings rules blocks m to F R G b e x
        (subst (Answers (opening_at T) (as_message m) (live (sizes_at setup) T) to) h (a (set_waiting no_tables waiting)));
  }

  pub passed_by : (c : counts.Counts) → selects_at tills m.scope m.from to ≡ false →
      Turned setup tills keys prices blocks net words seen waiting rings rules net words seen waiting rings rules m to c c
  unfolding Turned
  passed_by c e = λ L.
      let T = lend_serve L setup net tills words keys prices seen waiting rings rules blocks in (
        ap (λ (b : Bool). cond b (offered_t (opening_at T) (as_message m) T to) T) (sym e),
        ap (λ (b : Bool). cond b (add (fate_of (opening_at T) (as_message m) (live (sizes_at setup) T) to) (counts_of c)) (counts_of c)) (sym e),
      )

  pub taken_up : (net' words' seen' waiting' rings' rules' : List ℕ) (c n : counts.Counts) (r : Offer) → selects_at tills m.scope m.from to ≡ true
      → Offers setup net tills words keys prices seen rings rules blocks m to r → Applies m to r setup net words seen waiting rings rules net' words' seen' waiting' rings' rules'
      → counts_of n ≡ add (fate_in r) (counts_of c) → Turned setup tills keys prices blocks net words seen waiting rings rules net' words' seen' waiting' rings' rules' m to c n
  unfolding Turned Offers Applies
  taken_up net' words' seen' waiting' rings' rules' c n r e a w k = λ L.
      let T = lend_serve L setup net tills words keys prices seen waiting rings rules blocks in
      let both = answers_write (opening_at T) (as_message m) T to r (a (set_waiting L waiting)) in (
        w T ∙ both.1 ∙ ap (λ (b : Bool). cond b (offered_t (opening_at T) (as_message m) T to) T) (sym e),
        k ∙ ap (λ (j : Fate). add j (counts_of c)) both.0 ∙ ap (λ (b : Bool). cond b (add (fate_of (opening_at T) (as_message m) (live (sizes_at setup) T) to) (counts_of c)) (counts_of c)) (sym e),
      )

-- ---- All of them: what is done, and what is left

abbrev plus : Counts → Counts → Counts
plus a b = record { sent = a.sent + b.sent; deduplicated = a.deduplicated + b.deduplicated; partition = a.partition + b.partition; loss = a.loss + b.loss; fault = a.fault + b.fault }

plus_none : (a : Counts) → plus a no_counts ≡ a
plus_none a = (λ j. record { sent = p1 j; deduplicated = p2 j; partition = p3 j; loss = p4 j; fault = p5 j })
  where
    p1 : a.sent + 0 ≡ a.sent
    p1 = omega arith

    p2 : a.deduplicated + 0 ≡ a.deduplicated
    p2 = omega arith

    p3 : a.partition + 0 ≡ a.partition
    p3 = omega arith

    p4 : a.loss + 0 ≡ a.loss
    p4 = omega arith

    p5 : a.fault + 0 ≡ a.fault
    p5 = omega arith

-- a default of the counts is the count of no recipient
pub no_counts_made : (c : counts.Counts) → (c.sent ≡ 0) × ((c.deduplicated ≡ 0) × ((c.partition ≡ 0) × ((c.loss ≡ 0) × (c.fault ≡ 0)))) → counts_of c ≡ no_counts
no_counts_made c h = (λ j. record { sent = h.0 j; deduplicated = h.1.0 j; partition = h.1.1.0 j; loss = h.1.1.1.0 j; fault = h.1.1.1.1 j })

none_plus : (a : Counts) → plus no_counts a ≡ a
none_plus a = (λ j. record { sent = p1 j; deduplicated = p2 j; partition = p3 j; loss = p4 j; fault = p5 j })
  where
    p1 : 0 + a.sent ≡ a.sent
    p1 = omega arith

    p2 : 0 + a.deduplicated ≡ a.deduplicated
    p2 = omega arith

    p3 : 0 + a.partition ≡ a.partition
    p3 = omega arith

    p4 : 0 + a.loss ≡ a.loss
    p4 = omega arith

    p5 : 0 + a.fault ≡ a.fault
    p5 = omega arith

swap : (x y z : ℕ) → x + y + z ≡ y + (x + z)
swap x y z = omega arith

plus_add : (k : Fate) (a b : Counts) → plus (add k a) b ≡ plus a (add k b)
plus_add k a b = (λ j. record {
  sent = swap (bit (is_fate k sent)) a.sent b.sent j;
  deduplicated = swap (bit (is_fate k deduplicated)) a.deduplicated b.deduplicated j;
  partition = swap (bit (is_fate k partition)) a.partition b.partition j;
  loss = swap (bit (is_fate k loss)) a.loss b.loss j;
  fault = swap (bit (is_fate k fault)) a.fault b.fault j;
})

total_add : (k : Fate) (a : Counts) → total (add k a) ≡ total a + 1
total_add deduplicated a = omega arith
total_add partition a = omega arith
total_add loss a = omega arith
total_add fault a = omega arith
total_add sent a = omega arith

module _ (setup tills keys prices blocks net₀ words₀ seen₀ waiting₀ rings₀ rules₀ : List ℕ) (m : Outgoing) where
  -- what was done, with what is left, is all of it
  unfoldable pub Done : (net words seen waiting rings rules : List ℕ) (c : counts.Counts) (to : ℕ) → Type 0
  Done net words seen waiting rings rules c to =
      (L : Tables) → let T₀ = lend_serve L setup net₀ tills words₀ keys prices seen₀ waiting₀ rings₀ rules₀ blocks in
      let T = lend_serve L setup net tills words keys prices seen waiting rings rules blocks in
      (accept_t (opening_at T₀) (as_message m) T (remaining setup tills m to) ≡ accept_t (opening_at T₀) (as_message m) T₀ (remaining setup tills m 0))
      × (plus (counts_of c) (tally (booked (opening_at T₀) (as_message m) (live (sizes_at setup) T) (remaining setup tills m to))) ≡ tally
      (booked (opening_at T₀) (as_message m) (live (sizes_at setup) T₀) (remaining setup tills m 0)))

  pub done_none : (c : counts.Counts) → counts_of c ≡ no_counts → Done net₀ words₀ seen₀ waiting₀ rings₀ rules₀ c 0
  unfolding Done
  done_none c e = λ L.
      let T₀ = lend_serve L setup net₀ tills words₀ keys prices seen₀ waiting₀ rings₀ rules₀ blocks in
      let t = tally (booked (opening_at T₀) (as_message m) (live (sizes_at setup) T₀) (remaining setup tills m 0)) in
      (refl, ap (λ (a : Counts). plus a t) e ∙ none_plus t)

  module _ (net words seen waiting rings rules net' words' seen' waiting' rings' rules' : List ℕ) (c n : counts.Counts) (to : ℕ)
      (F : Fixed setup tills keys prices blocks) (R : Ranged setup m) (class : m.class < (sizes_at setup).classes)
      (G : AdmittedFrom setup net tills words seen waiting rings rules m to) (b : to < (sizes_at setup).tills)
      (turned : Turned setup tills keys prices blocks net words seen waiting rings rules net' words' seen' waiting' rings' rules' m to c n) where
    pub going_more : AdmittedFrom setup net' tills words' seen' waiting' rings' rules' m (to + 1)
    unfolding Turned
    going_more = go (selects_at tills m.scope m.from to) refl (turned no_tables).0
      where
        go : (v : Bool) → selects_at tills m.scope m.from to ≡ v →
            lend_serve no_tables setup net' tills words' keys prices seen' waiting' rings' rules' blocks ≡ cond v
            (offered_t (opening_at (lend_serve no_tables setup net tills words keys prices seen waiting rings rules blocks)) (as_message m)
            (lend_serve no_tables setup net tills words keys prices seen waiting rings rules blocks) to)
            (lend_serve no_tables setup net tills words keys prices seen waiting rings rules blocks) → AdmittedFrom setup net' tills words' seen' waiting' rings' rules' m (to + 1)
        go true e q = subst (λ (x : Tables). AdmittedFrom setup x.net tills x.words x.seen x.waiting x.rings x.rules m (to + 1)) (sym q)
            (goes_on no_tables setup net tills words keys prices seen waiting rings rules blocks m to F R G b e class)
        go false e q = subst (λ (x : Tables). AdmittedFrom setup x.net tills x.words x.seen x.waiting x.rings x.rules m (to + 1)) (sym q)
            (passes_on no_tables setup net tills words keys prices seen waiting rings rules blocks m to F R G b e)

    pub total_more : total (counts_of c) ≤ to → total (counts_of n) ≤ to + 1
    unfolding Turned
    total_more h = go (selects_at tills m.scope m.from to)
        (fate_of (opening_at (lend_serve no_tables setup net tills words keys prices seen waiting rings rules blocks)) (as_message m)
        (live (sizes_at setup) (lend_serve no_tables setup net tills words keys prices seen waiting rings rules blocks)) to) (turned no_tables).1
      where
        go : (v : Bool) (k : Fate) → counts_of n ≡ cond v (add k (counts_of c)) (counts_of c) → total (counts_of n) ≤ to + 1
        go true k q = omega (arith, ap total q, total_add k (counts_of c))
        go false k q = omega (arith, ap total q)

    pub done_more : Done net words seen waiting rings rules c to → Done net' words' seen' waiting' rings' rules' n (to + 1)
    unfolding Done Turned
    done_more d = λ L. go L (selects_at tills m.scope m.from to) refl (turned L).0 (turned L).1
      where
        go : (L : Tables) (v : Bool) → selects_at tills m.scope m.from to ≡ v
            → lend_serve L setup net' tills words' keys prices seen' waiting' rings' rules' blocks ≡ cond v
            (offered_t (opening_at (lend_serve L setup net tills words keys prices seen waiting rings rules blocks)) (as_message m)
            (lend_serve L setup net tills words keys prices seen waiting rings rules blocks) to) (lend_serve L setup net tills words keys prices seen waiting rings rules blocks)
            → counts_of n ≡ cond v (add (fate_of (opening_at (lend_serve L setup net tills words keys prices seen waiting rings rules blocks)) (as_message m)
            (live (sizes_at setup) (lend_serve L setup net tills words keys prices seen waiting rings rules blocks)) to) (counts_of c)) (counts_of c)
            → (accept_t (opening_at (lend_serve L setup net₀ tills words₀ keys prices seen₀ waiting₀ rings₀ rules₀ blocks)) (as_message m)
            (lend_serve L setup net' tills words' keys prices seen' waiting' rings' rules' blocks) (remaining setup tills m (to + 1)) ≡ accept_t
            (opening_at (lend_serve L setup net₀ tills words₀ keys prices seen₀ waiting₀ rings₀ rules₀ blocks)) (as_message m)
            (lend_serve L setup net₀ tills words₀ keys prices seen₀ waiting₀ rings₀ rules₀ blocks) (remaining setup tills m 0))
            × (plus (counts_of n) (tally (booked (opening_at (lend_serve L setup net₀ tills words₀ keys prices seen₀ waiting₀ rings₀ rules₀ blocks)) (as_message m)
            (live (sizes_at setup) (lend_serve L setup net' tills words' keys prices seen' waiting' rings' rules' blocks)) (remaining setup tills m (to + 1)))) ≡
            tally (booked (opening_at (lend_serve L setup net₀ tills words₀ keys prices seen₀ waiting₀ rings₀ rules₀ blocks)) (as_message m)
            (live (sizes_at setup) (lend_serve L setup net₀ tills words₀ keys prices seen₀ waiting₀ rings₀ rules₀ blocks)) (remaining setup tills m 0)))
        go L true e q k =
            let T = lend_serve L setup net tills words keys prices seen waiting rings rules blocks in
            let o : Opening = opening_at T in
            let s : Live = live (sizes_at setup) T in
            let ts : List ℕ = remaining setup tills m (to + 1) in
            let r : remaining setup tills m to ≡ to ∷ ts = rest_on (λ t. selects_at tills m.scope m.from t) (sizes_at setup).tills to b e in
            let p : live (sizes_at setup) (offered_t o (as_message m) T to) ≡ offered o (as_message m) s to =
            live_after_lem L setup net tills words keys prices seen waiting rings rules blocks m to F R G b e class in (
              ap (λ (x : Tables). accept_t o (as_message m) x ts) q ∙ ap (accept_t o (as_message m) T) (sym r) ∙ (d L).0,
              (λ j. plus (k j) (tally (booked o (as_message m) ((ap (live (sizes_at setup)) q ∙ p) j) ts)))
                  ∙ plus_add (fate_of o (as_message m) s to) (counts_of c) (tally (booked o (as_message m) (offered o (as_message m) s to) ts))
                  ∙ ap (λ (l : List ℕ). plus (counts_of c) (tally (booked o (as_message m) s l))) (sym r)
                  ∙ (d L).1,
            )
        go L false e q k =
            let T = lend_serve L setup net tills words keys prices seen waiting rings rules blocks in
            let o : Opening = opening_at T in
            let r : remaining setup tills m to ≡ remaining setup tills m (to + 1) = rest_off (λ t. selects_at tills m.scope m.from t) (sizes_at setup).tills to b e in (
              (λ j. accept_t o (as_message m) (q j) (sym r j)) ∙ (d L).0,
              (λ j. plus (k j) (tally (booked o (as_message m) (live (sizes_at setup) (q j)) (sym r j)))) ∙ (d L).1,
            )

  pub done_all : (net words seen waiting rings rules : List ℕ) (c : counts.Counts) (to : ℕ) → (sizes_at setup).tills ≤ to → Done net words seen waiting rings rules c to
      → Served setup tills keys prices blocks net₀ words₀ seen₀ waiting₀ rings₀ rules₀ net words seen waiting rings rules m c
  unfolding Done Served
  done_all net words seen waiting rings rules c to h d = λ L.
      let T₀ = lend_serve L setup net₀ tills words₀ keys prices seen₀ waiting₀ rings₀ rules₀ blocks in
      let T = lend_serve L setup net tills words keys prices seen waiting rings rules blocks in
      let r : remaining setup tills m to ≡ [] = rest_end (λ t. selects_at tills m.scope m.from t) (sizes_at setup).tills to h in (
        ap (accept_t (opening_at T₀) (as_message m) T) (sym r) ∙ (d L).0,
        sym (plus_none (counts_of c)) ∙ ap (λ (l : List ℕ). plus (counts_of c) (tally (booked (opening_at T₀) (as_message m) (live (sizes_at setup) T) l))) (sym r) ∙ (d L).1,
      )
