-- Every call's writes are the book's change of what the tables hold.
use mathlib.Core.Path.{◌≡◌, refl, sym, ap, ◌∙◌, subst}
use Prim.Native.Nat.{ℕ, ◌+◌, ◌*◌, ◌≤◌, ◌<◌}
use native.Mathlib.Omega.{arith}
use native.Mathlib.Nat.{le_trans}
use mathlib.Core.Bool.{Bool, true, false, cond, ◌&&◌}
use mathlib.Core.List.{List, [], ◌∷◌, ◌++◌}
use lib.Dec.{ltb}
use lib.ListN.{length, get_or, set, take, drop, length-take}
use borrow.Author.Tests.{ltb-true}
use Rattle.table_rows.specs.Lists.{Each}
use Rattle.table_ring.specs.Ring.{push}
use Rattle.table_rows.proofs.Lists.{each_map, get_d_up_to}
use Rattle.table_rows.proofs.Rows.{length_rows}
use Rattle.table_delivery.specs.declared.Delivery.{Delivery}
use Rattle.table_waiting.specs.Waiting as waiting
use Rattle.table_waiting.specs.declared.Copy.{Copy}
use Rattle.table_marks.specs.Marks.{ids_of, placed, removed}
use Rattle.table_marks.proofs.Ordered.{length_placed, length_removed}
use Rattle.table_rings.specs.Rings as rings
use Rattle.fault_card.specs.Card.{exact, fields_of}
use Rattle.fault_rules.specs.Rules.{rule_slots, most_rules, install_number, without}
use Rattle.fault_decide.specs.Decide.{Decision}
use Rattle.fault_blocks.specs.Blocks as blocks
use Rattle.fault_blocks.specs.Blocks.{block_slots, always, during}
use Rattle.fault_blocks.specs.declared.BlockWindow.{BlockWindow}
use Rattle.spec_network.specs.Opening.{Sizes, Opening, link}
use Rattle.spec_network.specs.Layout.{table}
use Rattle.spec_network.specs.Live.{Till, down_till, up_till, Live, with_tills, with_seen, with_engine, with_rings, with_waiting, with_log, with_blocks, is_original, ids_at, marked, stopped, till_at, rings_of}
use Rattle.spec_network.specs.Accept.{Message, message_of, selected, Drawn, drawn, carried_of, Fate, deduplicated, partition, loss, fault, sent, fate_of, copies, insert_all, ruled, remembered, words_moved, effect, offered, live_after}
use Rattle.spec_network.specs.Flush.{served, later, stops, lands, unmark, clearing, logged_all, flushed}
use Rattle.table_log.specs.Log.{logged, empty_log}
use Rattle.spec_network.specs.Calls.{Call, live_step, with_handlers, rule_added, rule_removed, accept, flush, take_down, bring_up, handlers, block, block_during, unblock, install, remove, decide, drain, reading}
use Rattle.spec_network.specs.Questions.{Room, asked_in, asked, first_no}
use Rattle.spec_network.specs.Lent.{near_delivery, near_copy}
use Rattle.spec_network.specs.Tables.{cell, Tables, live, ids_start, waiting_at, rules_at, installed_at, blocks_at, block_form, rule_form}
use Rattle.spec_network.specs.Writes.{set_rings, words_t, ruled_t, marks_t, push_t, remember_t, effect_t, offered_t, accept_t, clear_t, waiting_t, record_t, record_all_t, block_t, till_t, flush_t, step_t}
use Rattle.spec_book.proofs.Each.{both, all_each}
use Rattle.spec_book.proofs.Asking.{apart_in, room_fits, all_yes, apart}
use Rattle.spec_book.proofs.Sound.{Below, selected_below, sent_unmarked}
use Rattle.spec_book.proofs.Serving.{served_each, later_short}
use Rattle.spec_book.proofs.Fitting.{Limited, Fits, NearMessage, Good, drawn_good, few_copies, Ready, room, effect_fits, effect_length, effect_ready}
use Rattle.spec_book.proofs.StepFits.{near_message, length_without}
use Rattle.spec_book.proofs.Formed.{Formed, Wrote}
use Rattle.spec_book.proofs.WriteLaws.{till_wrote, marks_wrote, words_wrote, waiting_wrote, block_wrote, unblock_wrote, install_wrote, remove_wrote, ruled_wrote, ring_wrote, record_wrote, drain_wrote, push_wrote}

-- what a write does to a live part that the tables hold
then : (z : Sizes) (T T' : Tables) (s : Live) (g : Live → Live) → live z T ≡ s → Wrote z T' (g (live z T)) → Wrote z T' (g s)
then z T T' s g e w = record { formed = w.formed; holds = w.holds ∙ ap g e }

module _ (o : Opening) where
  -- ---- One recipient

  module _ (m : Message) (k : NearMessage o.sizes m) where
    remember_wrote : (T : Tables) → Formed o.sizes T → Wrote o.sizes (remember_t o m T) (with_rings (live o.sizes T) (remembered o m (live o.sizes T)))
    remember_wrote T f = go o.draws.echoing
      where
        go : (b : Bool) → Wrote o.sizes (cond b (set_rings T (rings.pushed (rings_of o.sizes) T.rings (rings.number_of m.kind m.scope) (carried_of m))) T)
            (with_rings (live o.sizes T) (cond b (set (live o.sizes T).rings (rings.number_of m.kind m.scope) (push rings.slots (get_or (live o.sizes T).rings (rings.number_of m.kind m.scope) []) (carried_of m))) (live o.sizes T).rings))
        go true = ring_wrote o.sizes T f (rings.number_of m.kind m.scope) (carried_of m) k.ring
        go false = record { formed = f; holds = refl }

    -- the link's words and the rules, as a decision leaves them
    decided_wrote : (T : Tables) → Formed o.sizes T → (v : Decision) → (t n : ℕ)
        → Wrote o.sizes (ruled_t (words_t T (link m.from t) n) v) (with_engine (words_moved o m (live o.sizes T) t n) (ruled (live o.sizes T).engine v))
    decided_wrote T f v t n =
        let w = words_wrote o.sizes T f (link m.from t) n in
        ruled_wrote o.sizes (words_t T (link m.from t) n) w.formed v

    pub effect_wrote : (c : Fate) (T : Tables) (d : Drawn) (t : ℕ) → Formed o.sizes T → length d.echoes.all ≤ 2 → t < o.sizes.tills
        → (c ≡ sent → length (ids_at (live o.sizes T) t) < o.sizes.seen_slots) → cell T.net waiting_at + 3 ≤ o.sizes.wait_slots → Wrote o.sizes (effect_t o m c T d t) (effect o m c (live o.sizes T) d t)
    effect_wrote deduplicated T d t f g b r w = record { formed = f; holds = refl }
    effect_wrote partition T d t f g b r w = record { formed = f; holds = refl }
    effect_wrote loss T d t f g b r w = words_wrote o.sizes T f (link m.from t) d.loss.words
    effect_wrote fault T d t f g b r w = decided_wrote T f d.verdict t d.latency.words
    effect_wrote sent T d t f g b r w =
        let z = o.sizes in
        let s = live z T in
        let cs = copies o m s d t in
        let ids = placed m.id (ids_at s t) in
        let T₁ = ruled_t (words_t T (link m.from t) d.echoes.words) d.verdict in
        let x₁ = decided_wrote T f d.verdict t d.echoes.words in
        let x₂ = marks_wrote z T₁ x₁.formed t ids b (omega (arith, length_placed m.id (ids_at s t), r refl)) in
        let T₂ = marks_t z T₁ t ids in
        let same : (live z T₂).queue.waiting ≡ s.queue.waiting = ap (λ (q : Live). q.queue.waiting) x₂.holds ∙ ap (λ (q : Live). q.queue.waiting) x₁.holds in
        let count : cell T₂.net waiting_at ≡ cell T.net waiting_at =
        sym (length_rows waiting.width waiting.read (cell T₂.net waiting_at) T₂.waiting) ∙ ap length same ∙ length_rows waiting.width waiting.read (cell T.net waiting_at) T.waiting in
        let x₃ = push_wrote z cs T₂ x₂.formed (omega (arith, count, few_copies o m s d t g)) in
        let x₄ = remember_wrote (push_t z T₂ cs) x₃.formed in
        record {
          formed = x₄.formed;
          holds = x₄.holds
              ∙ ap (λ (q : Live). with_rings q (remembered o m q))
              (x₃.holds ∙ ap (λ (q : Live). with_waiting q (length cs + q.queue.sequence) (insert_all table cs q.queue.waiting))
              (x₂.holds ∙ ap (λ (q : Live). with_seen q (set q.seen t ids)) x₁.holds));
        }

    accept_wrote : (ts : List ℕ) (T : Tables) (s : Live) → Wrote o.sizes T s → Fits o.sizes s → Below o.sizes.tills ts → Each (Ready o m s) ts → length s.queue.waiting + 3 * length ts ≤ o.sizes.wait_slots
        → Wrote o.sizes (accept_t o m T ts) (live_after o m s ts)
    unfolding offered
    accept_wrote [] T s w f b r l = w
    accept_wrote (t ∷ ts) T s w f b r l =
        let z = o.sizes in
        let d = drawn o m t s in
        let c = fate_of o m s t in
        let g = drawn_good o m k s t b.0 f in
        let free : c ≡ sent → marked s t m.id ≡ false = sent_unmarked (marked s t m.id) (stopped s m.from t m.now) d.loss.value d.verdict.drops in
        let many : length s.queue.waiting ≡ cell T.net waiting_at = sym (ap (λ (q : Live). length q.queue.waiting) w.holds) ∙ length_rows waiting.width waiting.read (cell T.net waiting_at) T.waiting in
        let slot : c ≡ sent → length (ids_at s t) < z.seen_slots = λ e. room o m s t r.0 (free e) in
        let x = effect_wrote (fate_of o m (live z T) t) T (drawn o m t (live z T)) t w.formed
        (subst (λ (q : Live). Good o m (drawn o m t q)) (sym w.holds) g).few b.0
        (subst (λ (q : Live). fate_of o m q t ≡ sent → length (ids_at q t) < z.seen_slots) (sym w.holds) slot) (omega (arith, many)) in
        let y : Wrote z (offered_t o m T t) (effect o m c s d t) =
        record { formed = x.formed; holds = x.holds ∙ ap (λ (q : Live). effect o m (fate_of o m q t) q (drawn o m t q) t) w.holds } in
        accept_wrote ts (offered_t o m T t) (effect o m c s d t) y
        (effect_fits o m k s d t f g c free b.0 r.0 (omega arith)) b.1
        (each_map (Ready o m s) (Ready o m (offered o m s t)) ts (λ u. effect_ready o m k s d t f g c free b.0 u) r.1) (omega (arith, effect_length o m k s d t f g c))

  -- ---- Flush

  -- a copy in range is for a till
  pub near_to : (d : Delivery) → near_delivery o.sizes d ≡ true → d.to < o.sizes.tills
  near_to d h = ltb-true d.to o.sizes.tills (go (ltb d.from o.sizes.tills) (ltb d.to o.sizes.tills) (ltb d.kind o.sizes.types) (ltb d.class o.sizes.classes) h)
    where
      go : (a b c e : Bool) → (a && b && c && e) ≡ true → b ≡ true
      go a b c e h = (both a b (both (a && b) c (both (a && b && c) e h).0).0).1

  pub ids_few : (z : Sizes) (T : Tables) (t : ℕ) → Formed z T → t < z.tills → length (ids_at (live z T) t) ≤ z.seen_slots
  ids_few z T t f b =
      let i : ℕ = ids_start z t in
      let n : ℕ = cell T.seen t in
      let e : ids_at (live z T) t ≡ ids_of T.seen i n = get_d_up_to z.tills (λ k. ids_of T.seen (ids_start z k) (cell T.seen k)) t [] b in
      le_trans (rw e (short n (drop i T.seen))) (f.seen.counts t b)
    where
      short : (n : ℕ) (l : List ℕ) → length (take n l) ≤ n
      short n l = omega (arith, length-take n l)

  clear_wrote : (s₀ : Live) (cs : List Copy) (T : Tables) (s : Live) → Wrote o.sizes T s → Each (λ (c : Copy). near_copy o.sizes c ≡ true) cs
      → Wrote o.sizes (clear_t o.sizes s₀ cs T) (with_seen s (clearing s₀ cs s.seen))
  clear_wrote s₀ [] T s w e = w
  clear_wrote s₀ (c ∷ cs) T s w e =
      clear_wrote s₀ cs _ (with_seen s (cond (stops s₀ c && is_original c) (unmark table c.delivery.to c.id s.seen) s.seen)) (go (stops s₀ c && is_original c)) e.1
    where
      go : (b : Bool) → Wrote o.sizes (cond b (marks_t o.sizes T c.delivery.to (removed c.id (ids_at (live o.sizes T) c.delivery.to))) T) (with_seen s (cond b (unmark table c.delivery.to c.id s.seen) s.seen))
      go true =
          let t : ℕ = c.delivery.to in
          let b = near_to c.delivery e.0 in
          let le = le_trans (length_removed c.id (ids_at (live o.sizes T) t)) (ids_few o.sizes T t w.formed b) in
          then o.sizes T _ s (λ (q : Live). with_seen q (unmark table t c.id q.seen)) w.holds (marks_wrote o.sizes T w.formed t (removed c.id (ids_at (live o.sizes T) t)) b le)
      go false = w

  record_all_wrote : (cs : List Copy) (T : Tables) (s : Live) → Wrote o.sizes T s → Wrote o.sizes (record_all_t o.sizes T cs) (with_log s (logged_all o.sizes.log_slots s.log cs))
  record_all_wrote [] T s w = w
  record_all_wrote (c ∷ cs) T s w =
      record_all_wrote cs (record_t o.sizes T c.delivery) (with_log s (logged o.sizes.log_slots s.log c.delivery))
      (then o.sizes T _ s (λ (q : Live). with_log q (logged o.sizes.log_slots q.log c.delivery)) w.holds (record_wrote o.sizes T w.formed c.delivery))

  flush_wrote : (now rows : ℕ) (T : Tables) (s : Live) → Wrote o.sizes T s → Fits o.sizes s → Wrote o.sizes (flush_t o.sizes T now rows) (flushed o now rows s)
  flush_wrote now rows T s w f =
      let z = o.sizes in
      let s₀ = live z T in
      let near = subst (λ (q : Live). Each (λ (c : Copy). near_copy z c ≡ true) (served now rows q)) (sym w.holds)
      (served_each now rows s (λ (c : Copy). near_copy z c ≡ true) f.queue.near) in
      let T₁ = clear_t z s₀ (served now rows s₀) T in
      let x = clear_wrote s₀ (served now rows s₀) T s w near in
      let left = later now rows s₀ in
      let y = waiting_wrote z T₁ x.formed left
      (subst (λ (q : Live). length (later now rows q) ≤ z.wait_slots) (sym w.holds) (le_trans (later_short now rows s) f.queue.few)) in
      let v = record_all_wrote (lands s₀ (served now rows s₀)) (waiting_t T₁ left) (with_waiting (with_seen s (clearing s₀ (served now rows s₀) s.seen)) s.queue.sequence left)
      (then z T₁ (waiting_t T₁ left) (with_seen s (clearing s₀ (served now rows s₀) s.seen)) (λ (q : Live). with_waiting q q.queue.sequence left) x.holds y) in
      record {
        formed = v.formed;
        holds = v.holds
            ∙ ap (λ (q : Live). with_log (with_waiting (with_seen s (clearing q (served now rows q) s.seen)) s.queue.sequence (later now rows q)) (logged_all z.log_slots s.log (lands q (served now rows q)))) w.holds;
      }

  -- ---- Every call

  new_till : (T : Tables) (s : Live) (t : ℕ) (g : Till → Till) → Wrote o.sizes T s → t < o.sizes.tills
      → Wrote o.sizes (till_t T t (g (till_at (live o.sizes T) t))) (with_tills s (set s.tills t (g (till_at s t))))
  new_till T s t g w b =
      then o.sizes T _ s (λ (q : Live). with_tills q (set q.tills t (g (till_at q t)))) w.holds (till_wrote o.sizes T w.formed t (g (till_at (live o.sizes T) t)) b)

  new_block : (T : Tables) (s : Live) (e : BlockWindow) → Wrote o.sizes T s → ltb (length s.engine.blocks) block_slots ≡ true
      → Wrote o.sizes (block_t T e) (with_engine s (with_blocks s.engine (s.engine.blocks ++ (e ∷ []))))
  new_block T s e w h =
      let count : length s.engine.blocks ≡ cell T.net blocks_at = sym (ap (λ (q : Live). length q.engine.blocks) w.holds) ∙ length_rows block_form.width block_form.read (cell T.net blocks_at) T.blocks in
      then o.sizes T _ s (λ (q : Live). with_engine q (with_blocks q.engine (q.engine.blocks ++ (e ∷ [])))) w.holds
      (block_wrote o.sizes T w.formed e (subst (λ (n : ℕ). ltb n block_slots ≡ true) count h))

  install_number_lem : (n ever : ℕ) (card : List ℕ) → (ltb n rule_slots && ltb ever most_rules) ≡ true → exact card ≡ true → install_number n ever card ≡ 0
  unfolding install_number
  install_number_lem n ever card a b = ap (λ (x : Bool). cond x (cond (exact card) 0 13) 12) a ∙ ap (λ (x : Bool). cond x 0 13) b

  pub step_wrote : Limited o.sizes → (room : Room) (c : Call) (T : Tables) (s : Live) → Wrote o.sizes T s → Fits o.sizes s → first_no (asked_in o room s c) ≡ 0 → Wrote o.sizes (step_t o T c) (live_step o s c)
  step_wrote lim room (accept e true) T s w f h =
      let y = all_yes (asked_in o room s (accept e true)) (apart_in o room s (accept e true)) h in
      let m = message_of o e in
      let ts = selected o s e.scope e.from in
      subst (λ (q : Live). Wrote o.sizes (accept_t o m T (selected o q e.scope e.from)) (live_after o m s ts)) (sym w.holds)
      (accept_wrote m (near_message o lim e y.0 y.1.0 y.1.1.0) ts T s w f (selected_below o s e.scope e.from) (all_each _ ts y.1.1.1.1.1.1.0) (room_fits o room s e y.1.1.1.1.1.1.1.0))
  step_wrote lim room (accept e false) T s w f h = w
  step_wrote lim room (flush now rows) T s w f h = flush_wrote now rows T s w f
  step_wrote lim room (take_down t) T s w f h =
      let y = all_yes (asked o s (take_down t)) (apart o s (take_down t)) h in
      let b = ltb-true t o.sizes.tills y.0 in
      let x = new_till T s t (λ u. down_till) w b in
      then o.sizes (till_t T t down_till) _ _ (λ (q : Live). with_seen q (set q.seen t [])) x.holds (marks_wrote o.sizes (till_t T t down_till) x.formed t [] b (omega arith))
  step_wrote lim room (bring_up t shards) T s w f h =
      let y = all_yes (asked o s (bring_up t shards)) (apart o s (bring_up t shards)) h in
      new_till T s t (λ u. up_till shards) w (ltb-true t o.sizes.tills y.0)
  step_wrote lim room (handlers t gossip host) T s w f h =
      let y = all_yes (asked o s (handlers t gossip host)) (apart o s (handlers t gossip host)) h in
      new_till T s t (λ (u : Till). with_handlers u gossip host) w (ltb-true t o.sizes.tills y.0)
  step_wrote lim room (block from to) T s w f h =
      let y = all_yes (asked o s (block from to)) (apart o s (block from to)) h in
      new_block T s (always from to) w y.1.0
  step_wrote lim room (block_during from to start end) T s w f h =
      let y = all_yes (asked o s (block_during from to start end)) (apart o s (block_during from to start end)) h in
      new_block T s (during from to start end) w y.1.0
  step_wrote lim room (unblock from to) T s w f h =
      then o.sizes T _ s (λ (q : Live). with_engine q (with_blocks q.engine (blocks.unblocked from to q.engine.blocks))) w.holds (unblock_wrote o.sizes T w.formed from to)
  step_wrote lim room (install card) T s w f h =
      let y = all_yes (asked o s (install card)) (apart o s (install card)) h in
      let count : length s.engine.rules ≡ cell T.net rules_at = sym (ap (λ (q : Live). length q.engine.rules) w.holds) ∙ length_rows rule_form.width rule_form.read (cell T.net rules_at) T.rules in
      let ever : s.engine.installed ≡ cell T.net installed_at = sym (ap (λ (q : Live). q.engine.installed) w.holds) in
      let free : (ltb (cell T.net rules_at) rule_slots && ltb (cell T.net installed_at) most_rules) ≡ true = rw (← count, ← ever) y.0 in
      then o.sizes T _ s (λ (q : Live). with_engine q (rule_added q.engine (fields_of card))) w.holds
      (install_wrote o.sizes T w.formed card (install_number_lem (cell T.net rules_at) (cell T.net installed_at) card free y.1.0))
  step_wrote lim room (remove id) T s w f h =
      let few : length (without id (live o.sizes T).engine.rules) ≤ rule_slots =
      subst (λ (q : Live). length (without id q.engine.rules) ≤ rule_slots) (sym w.holds) (le_trans (length_without id s.engine.rules) f.engine.rules) in
      then o.sizes T _ s (λ (q : Live). with_engine q (rule_removed q.engine id)) w.holds (remove_wrote o.sizes T w.formed id few)
  step_wrote lim room (decide x) T s w f h =
      then o.sizes T _ s (λ (q : Live). with_engine q (ruled q.engine (o.draws.decide x q.engine.rules q.engine.words))) w.holds
      (ruled_wrote o.sizes T w.formed (o.draws.decide x (live o.sizes T).engine.rules (live o.sizes T).engine.words))
  step_wrote lim room (drain rows) T s w f h = then o.sizes T _ s (λ (q : Live). with_log q empty_log) w.holds (drain_wrote o.sizes T w.formed)
  step_wrote lim room (reading r) T s w f h = w
