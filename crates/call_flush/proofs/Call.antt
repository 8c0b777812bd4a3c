-- The ways through flush: the ladder of its questions, what a passed ladder says, and the call by the network's definitions. Assumes nothing.
use mathlib.Core.Path.{◌≡◌, refl, sym, ap, ◌∙◌, subst}
use mathlib.Core.Bool.{Bool, true, false, cond}
use mathlib.Core.List.{List, [], ◌∷◌, ◌++◌}
use Prim.Native.Nat.{ℕ, zero, suc, ◌+◌, ◌*◌, ◌-◌, ◌/◌, ◌≤◌, ◌<◌}
use native.Mathlib.Nat.{div-mul-le_self, mul-le-mul_right, suc-mul}
use native.Mathlib.Omega.{arith}
use lib.Dec.{leb}
use lib.ListN.{length, set, drop}
use lib.Seq.{drop-drop}
use borrow.Author.Tests.{le-leb, lt-leb}
use Rattle.table_rows.specs.Rows.{flat}
use Rattle.table_rows.specs.Lists.{Each, front}
use Rattle.table_rows.specs.Table.{over}
use Rattle.table_rows.proofs.Table.{row_at}
use Rattle.table_waiting.specs.declared.Copy.{Copy}
use Rattle.table_waiting.specs.Waiting as waiting
use Rattle.table_waiting.specs.Waiting.{copies, on_time}
use Rattle.spec_network.specs.Lists.{count}
use Rattle.spec_network.specs.Opening.{latest_now}
use Rattle.spec_network.specs.Live.{Live}
use Rattle.spec_network.specs.Flush.{stops, row_of, lands, rows_of, drops_of, handled, served}
use Rattle.spec_network.specs.Calls.{moved_by}
use Rattle.spec_network.specs.Tables.{Tables, cell, live, sizes_at, net_width, waiting_at}
use Rattle.spec_network.specs.Lending.{lend_flush}
use Rattle.spec_network.specs.Writes.{Reply, row_width, row_words, output_of, call_reply}
use Rattle.ask_tables.specs.Held.{setup_held, net_held, tills_held, seen_held, waiting_held, blocks_held, log_held}
use Rattle.ask_tables.proofs.Ladder.{yes, no, both, only}
use Rattle.ask_tables.proofs.Passed.{PassedSetup, PassedNet, setup_says_lem, net_says_lem}
use Rattle.ask_tables.proofs.PassedRows.{PassedTills, PassedBlocks, PassedSeen, tills_say_lem, blocks_say_lem, seen_says_lem}
use Rattle.ask_rows.specs.HeldRows.{limits_of}
use Rattle.ask_rows.proofs.Passed.{PassedWaiting, PassedLog, waiting_says_lem, log_says}
use Rattle.table_scan.proofs.Laws as scan
use Rattle.call_reply.proofs.Laws as reply
use Rattle.ask_refusal.specs.declared.Refusal.{Refusal}
use Rattle.ask_refusal.specs.Refusals.{number_of}
use Rattle.ask_refusal.proofs.Laws.{number_not_0}
use Rattle.call_flush_pass.specs.declared.Extents.{Extents}
use Rattle.call_flush_pass.specs.Pass.{flush_view, cleared_one, cleared_by, cleared, recorded, written, moved_of, Near}
use Rattle.call_flush_pass.proofs.Passing.{length_map}
use Rattle.call_flush.specs.declared.Flushed.{Flushed}
use Rattle.call_flush.specs.Call.{flushed_of, flush_call, DoesFlush, rows_lent, flush_lent, flush_number, due_count, room_number, extents_at, refused_by, flushed_by, Ready, Worked}
use Rattle.call_flush.proofs.Tables.{due_within, due_first, written_front, flush_tables}

-- ---- Rows in range

-- a fact of each row, by its place
each_row : (P : Copy → Type 0) (k : ℕ) (w : List ℕ) → ((i : ℕ) → i < k → P (waiting.read (drop (i * waiting.width) w))) → Each P (copies w k)
each_row P zero w h = tt
each_row P (suc k) w h =
    let one : (i : ℕ) → i * waiting.width + waiting.width ≡ suc i * waiting.width = λ i. omega (arith, suc-mul i waiting.width) in (
      h 0 (omega arith),
      each_row P k (drop waiting.width w)
          (λ i l. subst (λ (x : List ℕ). P (waiting.read x))
          (sym (drop-drop (i * waiting.width) waiting.width w ∙
          (let e : waiting.width + i * waiting.width ≡ suc i * waiting.width = omega (arith, one i) in ap (λ (j : ℕ). drop j w) e))) (h (suc i) (omega arith))),
    )

-- ---- What the ladder says

module _ (s n t e w b l : List ℕ) where
  pub record Held : Type 0 where
    pub setup : PassedSetup s
    pub net : PassedNet s n
    pub tills : PassedTills s t
    pub seen : PassedSeen s e
    pub waiting : PassedWaiting s n w
    pub blocks : PassedBlocks s n b
    pub log : PassedLog s l

  pub holds : flush_lent s n t e w b l ≡ true → Held
  unfolding flush_lent rows_lent
  holds h =
      let q1 = both (setup_held s) _ h in
      let q2 = both (net_held s n) _ q1.1 in
      let q3 = both (tills_held s t) _ q2.1 in
      let q4 = both (seen_held s e) _ q3.1 in
      let q5 = both (waiting_held s n w) _ q4.1 in
      let q6 = both (blocks_held s n b) _ q5.1 in
      record {
        setup = setup_says_lem s q1.0;
        net = net_says_lem s n q2.0;
        tills = tills_say_lem s t q3.0;
        seen = seen_says_lem s e q4.0;
        waiting = waiting_says_lem s n w q5.0;
        blocks = blocks_say_lem s n b q6.0;
        log = log_says s l (only _ q6.1);
      }

  module _ (h : Held) (now k : ℕ) (ek : k ≡ due_count n w now) where
    within : k ≤ cell n waiting_at
    unfolding due_count
    within = due_within w (cell n waiting_at) now k ek

    pub near_at : (i : ℕ) → i < k → Near (extents_at s n) (waiting.read (drop (i * waiting.width) w))
    unfolding extents_at
    near_at i q =
        let d = waiting.read w in
        let N = cell n waiting_at in
        let c = waiting.read (drop (i * waiting.width) w) in
        let at = row_at waiting.form w N i d (omega (arith, q, within)) in
        let near : scan.Near (limits_of (sizes_at s)) c.delivery = subst (λ (x : Copy). scan.Near (limits_of (sizes_at s)) x.delivery) at (h.waiting.near i d (omega (arith, q, within))) in
        record { from = near.from; to = near.to; kind = omega (arith, near.kind, h.setup.sizes.types) }

    pub ready : (out : List ℕ) → k ≤ length out / row_width → Ready (extents_at s n) k n t e w b l out
    unfolding extents_at
    ready out room =
        let N : cell n waiting_at * waiting.width ≤ length w = let m : cell n waiting_at * waiting.width ≤ (sizes_at s).wait_slots * waiting.width =
        mul-le-mul_right waiting.width h.net.waiting in omega (arith, m, h.waiting.size) in
        let K : k * waiting.width ≤ cell n waiting_at * waiting.width = mul-le-mul_right waiting.width within in
        let o : k * row_width ≤ length out / row_width * row_width = mul-le-mul_right row_width room in
        record {
          net = h.net.size;
          room = record { tills = omega (arith, h.tills.size); blocks = omega (arith, h.blocks.size, h.net.blocks) };
          due = record {
            few = omega (arith, within, h.net.waiting, h.setup.sizes.wait_slots);
            rows = omega (arith, K, N);
            near = near_at;
            room = omega (arith, o, div-mul-le_self (length out) row_width);
          };
          seen = record { size = omega (arith, h.seen.size); counts = h.seen.counts };
          log = record { few = h.setup.sizes.log_slots; size = omega (arith, h.log.size) };
          rows = N;
          within = within;
        }

    pub each_near : Each (λ (c : Copy). c.delivery.to < (sizes_at s).tills) (copies w k)
    unfolding extents_at
    each_near = each_row (λ (c : Copy). c.delivery.to < (sizes_at s).tills) k w (λ i q. (near_at i q).to)

-- ---- The ladder

module _ (s n t e w b l : List ℕ) where
  module _ (now rest : ℕ) where
    pub not_lent : flush_lent s n t e w b l ≡ false → 1 ≡ flush_number s n t e w b l now rest
    unfolding flush_number
    not_lent h = no _ _ _ _ h refl

    pub too_late : flush_lent s n t e w b l ≡ true → latest_now < now → 7 ≡ flush_number s n t e w b l now rest
    unfolding flush_number
    too_late h q = yes _ _ _ _ h (no _ _ _ _ (lt-leb now latest_now q) refl)

    pub in_time : flush_lent s n t e w b l ≡ true → now ≤ latest_now → rest ≡ flush_number s n t e w b l now rest
    unfolding flush_number
    in_time h q = yes _ _ _ _ h (yes _ _ _ _ (le-leb now latest_now q) refl)

    two : (x y : Bool) (r : ℕ) → r ≡ cond x (cond y 0 7) 1 → r ≡ 0 → (x ≡ true) × (y ≡ true)
    two true true r p q = (refl, refl)
    two true false r p q = absurd (omega arith)
    two false y r p q = absurd (omega arith)

    pub passed : (r : ℕ) → r ≡ flush_number s n t e w b l now 0 → r ≡ 0 → (flush_lent s n t e w b l ≡ true) × (rest ≡ flush_number s n t e w b l now rest)
    unfolding flush_number
    passed r p q =
        let h = two (flush_lent s n t e w b l) (leb now latest_now) r p q in
        (h.0, yes (flush_lent s n t e w b l) rest (cond (leb now latest_now) rest 7) 1 h.0 (yes (leb now latest_now) rest rest 7 h.1 refl))

    pub refused_first : (r : ℕ) → r ≡ flush_number s n t e w b l now 0 → (r ≡ 0 → ⊥) → r ≡ flush_number s n t e w b l now rest
    unfolding flush_number
    refused_first r p h = go (flush_lent s n t e w b l) (leb now latest_now) p
      where
        go : (x y : Bool) → r ≡ cond x (cond y 0 7) 1 → r ≡ cond x (cond y rest 7) 1
        go true true q = absurd (h q)
        go true false q = q
        go false y q = q

pub no_room : (k m : ℕ) → m < k → 14 ≡ room_number k m
unfolding room_number
no_room k m h = no _ _ _ _ (lt-leb k m h) refl

pub has_room : (k m : ℕ) → k ≤ m → 0 ≡ room_number k m
unfolding room_number
has_room k m h = yes _ _ _ _ (le-leb k m h) refl

-- ---- The call

module _ (s n t e w b l out : List ℕ) (now : ℕ) where
  abbrev pub asks : ℕ
  asks = flush_number s n t e w b l now (room_number (due_count n w now) (length out / row_width))

  number_is : (T : Tables) → asks ≡ (call_reply (lend_flush T s n t e w b l) (flush_call out now)).number
  unfolding flush_number room_number due_count flush_lent rows_lent setup_held net_held tills_held seen_held waiting_held blocks_held log_held
  number_is T = refl

  pub refused : (r : ℕ) → r ≡ asks → (r ≡ 0 → ⊥) → DoesFlush s n t e w b l n e w l now (refused_by r) out out
  unfolding DoesFlush
  refused r q h = λ T.
      let T₀ = lend_flush T s n t e w b l in
      let same = q ∙ number_is T in
      let still = reply.silenced T₀ (flush_call out now) r same h in
      (ap flushed_of (sym still), reply.stays T₀ (flush_call out now) r same h, sym (ap (λ (a : Reply). output_of a.answer ++ drop (length (output_of a.answer)) out) still))

-- ---- The work is the network's

cleared_same : (tills slots : ℕ) (g s : Live) → ((c : Copy) → stops g c ≡ stops s c) → (cs : List Copy) (seen : List ℕ) → cleared tills slots g cs seen ≡ cleared tills slots s cs seen
unfolding cleared cleared_by
cleared_same tills slots g s h [] seen = refl
cleared_same tills slots g s h (c ∷ cs) seen =
    cleared_same tills slots g s h cs (cleared_by tills slots g c seen)
    ∙ ap (λ (x : Bool). cleared tills slots s cs (cond x (cleared_one tills slots c seen) seen)) (h c)

module _ (T : Tables) (s n t e w b l : List ℕ) where
  abbrev T₀ : Tables
  T₀ = lend_flush T s n t e w b l

  abbrev L : Live
  L = live (sizes_at s) (lend_flush T s n t e w b l)

  abbrev G : Live
  G = flush_view (extents_at s n) t b

  same_stops : (c : Copy) → stops G c ≡ stops L c
  unfolding flush_view extents_at
  same_stops c = refl

  same_lands : (cs : List Copy) → lands G cs ≡ lands L cs
  unfolding flush_view extents_at
  same_lands cs = refl

  same_written : (cs : List Copy) (out : List ℕ) → written G cs out ≡ written L cs out
  unfolding flush_view extents_at written
  same_written cs out = refl

  same_moved : (cs : List Copy) → moved_of G cs ≡ moved_of L cs
  unfolding flush_view extents_at moved_of
  same_moved cs = refl

  counts : (cs : List Copy) → flushed_by (moved_of L cs) ≡ flushed_of (record { number = 0; answer = moved_by (rows_of L cs) (drops_of L cs) })
  unfolding flushed_by moved_of
  counts cs = ap (λ (k : ℕ). record { number = 0; rows = k; delivered = count handled (rows_of L cs); dropped = drops_of L cs }) (sym (length_map (row_of L) (lands L cs)))

module _ (s n t e w b l n' e' w' l' out out' : List ℕ) (now k : ℕ) (ek : k ≡ due_count n w now) (h : Held s n t e w b l)
    (r : Flushed) (d : Worked (extents_at s n) k n t e w b l n' e' w' l' r out out') where
  module _ (T : Tables) where
    is_due : k ≡ length (served now (length out / row_width) (live (sizes_at s) (lend_flush T s n t e w b l)))
    unfolding due_count
    is_due = ek

    cs : List Copy
    cs = copies w k

    first : served now (length out / row_width) (live (sizes_at s) (lend_flush T s n t e w b l)) ≡ copies w k
    unfolding due_count
    first = due_first w (cell n waiting_at) now k ek

    tables : lend_flush T s (set n waiting_at (cell n waiting_at - k)) t
        (cleared (sizes_at s).tills (sizes_at s).seen_slots (live (sizes_at s) (lend_flush T s n t e w b l)) (copies w k) e)
        (over waiting.form (drop k (copies w (cell n waiting_at))) w)
        b
        (recorded (sizes_at s).log_slots (lands (live (sizes_at s) (lend_flush T s n t e w b l)) (copies w k)) l)
        ≡ lend_flush T s n' t e' w' b l'
    unfolding extents_at
    tables =
        let L = live (sizes_at s) (lend_flush T s n t e w b l) in
        let marks = d.seen ∙ cleared_same (sizes_at s).tills (sizes_at s).seen_slots (flush_view (extents_at s n) t b) L (same_stops T s n t e w b l) (copies w k) e in
        let records = d.log ∙ ap (λ (x : List Copy). recorded (sizes_at s).log_slots x l) (same_lands T s n t e w b l (copies w k)) in
        λ j. lend_flush T s (sym d.net j) t (sym marks j) (sym d.waiting j) b (sym records j)

  pub done : 0 ≡ asks s n t e w b l out now → DoesFlush s n t e w b l n' e' w' l' now r out out'
  unfolding DoesFlush
  done q = λ T.
      let T₀ = lend_flush T s n t e w b l in
      let L = live (sizes_at s) T₀ in
      let same = q ∙ number_is s n t e w b l out now T in
      let told = reply.answered T₀ (flush_call out now) 0 same refl in
      let one = first T in (
        d.reply ∙ ap flushed_by (same_moved T s n t e w b l (copies w k)) ∙ counts T s n t e w b l (copies w k)
            ∙ sym (ap flushed_of told ∙ (λ j. flushed_of (record { number = 0; answer = moved_by (rows_of L (one j)) (drops_of L (one j)) }))),
        reply.steps T₀ (flush_call out now) 0 same refl ∙ flush_tables (sizes_at s) T₀ now (length out / row_width) k (is_due T) (each_near s n t e w b l h now k ek) ∙ tables T,
        d.out ∙ same_written T s n t e w b l (copies w k) out ∙ written_front L (copies w k) out
            ∙ sym (ap (λ (a : Reply). output_of a.answer ++ drop (length (output_of a.answer)) out) told ∙ (λ j. let new = flat row_words (rows_of L (one j)) in new ++ drop (length new) out)),
      )

-- ---- The ways through `flush`

module _ (s n t e w b l : List ℕ) where
  pub refused_by_lem : (out : List ℕ) (now : ℕ) (f : Refusal) → number_of f ≡ flush_number s n t e w b l now 0 → DoesFlush s n t e w b l n e w l now (refused_by (number_of f)) out out
  refused_by_lem out now f q =
      refused s n t e w b l out now (number_of f)
      (refused_first s n t e w b l now (room_number (due_count n w now) (length out / row_width)) (number_of f) q (number_not_0 f))
      (number_not_0 f)

  module _ (now : ℕ) (q : 0 ≡ flush_number s n t e w b l now 0) where
    held : Held s n t e w b l
    held = holds s n t e w b l (passed s n t e w b l now 0 0 q refl).0

    pub net_long : length n ≡ net_width
    net_long = held.net.size

    pub rows_room : cell n waiting_at * waiting.width ≤ length w
    rows_room = let m : cell n waiting_at * waiting.width ≤ (sizes_at s).wait_slots * waiting.width = mul-le-mul_right waiting.width held.net.waiting in omega (arith, m, held.waiting.size)

    module _ (out : List ℕ) (k : ℕ) (ek : k ≡ length (front (on_time now) (copies w (cell n waiting_at)))) where
      is_due_count : k ≡ due_count n w now
      unfolding due_count
      is_due_count = ek

      asks_room : (m : ℕ) → m ≡ room_number k (length out / row_width) → m ≡ asks s n t e w b l out now
      asks_room m p = p ∙ ap (λ (i : ℕ). room_number i (length out / row_width)) is_due_count ∙ (passed s n t e w b l now (room_number (due_count n w now) (length out / row_width)) 0 q refl).1

      pub refused_room : length out / row_width < k → DoesFlush s n t e w b l n e w l now (refused_by 14) out out
      refused_room f = refused s n t e w b l out now 14 (asks_room 14 (no_room k (length out / row_width) f)) (λ z. omega arith)

      module _ (f : k ≤ length out / row_width) (z : Extents) (ez : z ≡ extents_at s n) where
        pub ready_by : Ready z k n t e w b l out
        ready_by = subst (λ (x : Extents). Ready x k n t e w b l out) (sym ez) (ready s n t e w b l held now k is_due_count out f)

        pub done_by : (n' e' w' l' out' : List ℕ) (v : Flushed) → Worked z k n t e w b l n' e' w' l' v out out' → DoesFlush s n t e w b l n' e' w' l' now v out out'
        done_by n' e' w' l' out' v d =
            done s n t e w b l n' e' w' l' out out' now k is_due_count held v
            (subst (λ (x : Extents). Worked x k n t e w b l n' e' w' l' v out out') ez d) (asks_room 0 (has_room k (length out / row_width) f))
