-- The tables' draws and the book's agree on every link between the opening's tills. So every call that no number refuses does and answers the same by either, and every question is the same.
use mathlib.Core.Path.{◌≡◌, refl, ap, ◌∙◌}
use Prim.Native.Nat.{ℕ, ◌<◌}
use mathlib.Core.Bool.{true, false, cond, not, ◌&&◌, ◌||◌}
use mathlib.Core.List.{List, [], ◌∷◌, ◌++◌}
use lib.Dec.{ltb}
use lib.ListN.{length, get_or}
use borrow.Author.Tests.{ltb-true}
use Rattle.table_rows.specs.Rows.{all_of}
use Rattle.spec_network.specs.Lists.{bit}
use Rattle.spec_network.specs.Opening.{Opening, Draw, Draws, link}
use Rattle.spec_network.specs.Layout.{Layout, slots_of}
use Rattle.spec_network.specs.Live.{Carried, LiveBy, with_engine, marked, stopped, ids_at}
use Rattle.spec_network.specs.Accept.{Entry, Message, message_of, selected, Echoed, duplicate_of, replay_of, Echoes, Drawn, carried_of, ring_for, is_empty, timed, replayed, echoed, echoes_of, context, drawn, ruled, Fate, deduplicated, partition, loss, fault, sent, first_fit, fate_of, effect, offered, live_after, Booked, booked, tally}
use Rattle.spec_network.specs.Calls.{Call, number, counted, live_step, answer_of, accept, flush, take_down, bring_up, handlers, block, block_during, unblock, install, remove, decide, drain, reading}
use Rattle.spec_network.specs.Questions.{Room, alone, pooled, ask, ask4, ask5, ask6, ask7, ask8, ask9, ask10, ask11, ask_room, asked_in, first_no}
use Rattle.spec_network.proofs.Opened.{SameDraws}
use Rattle.spec_book.proofs.Asking.{all_yes, apart_in}
use Rattle.spec_book.proofs.Sound.{Below, selected_below}

-- an opening by other draws
abbrev pub by : Opening → Draws → Opening
by o d = record { sizes = o.sizes; draws = d }

module _ (o : Opening) (d : Draws) (same : SameDraws o.sizes.tills d o.draws) where
  -- ---- One recipient

  module _ (m : Message) (from : m.from < o.sizes.tills) where
    module _ (t : ℕ) (to : t < o.sizes.tills) where
      same_timed : (words : ℕ) (es : List Echoed) → timed (by o d) m t words es ≡ timed o m t words es
      same_timed words [] = refl
      same_timed words (e ∷ es) = (λ j.
          let l : Draw ℕ = same.latency m.from t from to j e.carried.wire words in
          let rest : Echoes = same_timed l.words es j in
          record { all = record { what = e; latency = l.value } ∷ rest.all; words = rest.words })

      same_replayed : (ring : List Carried) (words : ℕ) → replayed (by o d) m t ring words ≡ replayed o m t ring words
      same_replayed ring words = (λ j.
          let hit = same.replay m.from t from to j words in
          let at = same.index m.from t from to j (length ring) hit.words in
          cond (hit.value && not (is_empty ring))
          (record { value = replay_of (get_or ring at.value (carried_of m)) ∷ []; words = at.words })
          (record { value = []; words = hit.words }))

      same_echoed : (ring : List Carried) (words : ℕ) → echoed (by o d) m t ring words ≡ echoed o m t ring words
      same_echoed ring words = (λ j.
          let u = same.duplicate m.from t from to j words in
          let r = same_replayed ring u.words j in
          record { value = cond u.value (duplicate_of (carried_of m) ∷ []) [] ++ r.value; words = r.words })

      same_echoes : (ring : List Carried) (words : ℕ) → echoes_of (by o d) m t ring words ≡ echoes_of o m t ring words
      same_echoes ring words = (λ j.
          let e = same_echoed ring words j in
          cond (same.echoing j) (same_timed e.words e.value j) (record { all = []; words = words }))

      same_drawn : {k : Layout} (s : LiveBy k) → drawn (by o d) m t s ≡ drawn o m t s
      unfolding drawn
      same_drawn s = (λ j.
          let l = same.loss m.from t from to j (get_or s.words (link m.from t) 0) in
          let a = same.latency m.from t from to j m.wire l.words in
          record { loss = l; latency = a; verdict = same.decide j (context o m t) s.engine.rules s.engine.words; echoes = same_echoes (ring_for s m) a.words j })

      same_fate : {k : Layout} (s : LiveBy k) → fate_of (by o d) m s t ≡ fate_of o m s t
      same_fate s = ap (λ (x : Drawn). first_fit (marked s t m.id) (stopped s m.from t m.now) x.loss.value x.verdict.drops) (same_drawn s)

      -- beside what was drawn, an effect asks of the draws only whether the ring takes the message
      same_effect : {k : Layout} (s : LiveBy k) (x : Drawn) (c : Fate) → effect (by o d) m c s x t ≡ effect o m c s x t
      same_effect s x deduplicated = refl
      same_effect s x partition = refl
      same_effect s x loss = refl
      same_effect s x fault = refl
      same_effect s x sent = (λ j. effect (by o (record {
        loss = d.loss;
        duplicate = d.duplicate;
        replay = d.replay;
        echoing = same.echoing j;
        latency = d.latency;
        index = d.index;
        decide = d.decide;
        id = d.id;
      })) m sent s x t)

      same_offer : {k : Layout} (s : LiveBy k) → offered (by o d) m s t ≡ offered o m s t
      unfolding offered
      same_offer s = same_effect s (drawn (by o d) m t s) (fate_of (by o d) m s t) ∙ (λ j. effect o m (same_fate s j) s (same_drawn s j) t)

    same_after : (ts : List ℕ) → Below o.sizes.tills ts → {k : Layout} (s : LiveBy k) → live_after (by o d) m s ts ≡ live_after o m s ts
    same_after [] b s = refl
    same_after (t ∷ ts) b {k} s = same_after ts b.1 (offered (by o d) m s t) ∙ ap (λ (q : LiveBy k). live_after o m q ts) (same_offer t b.0 s)

    same_booked : (ts : List ℕ) → Below o.sizes.tills ts → {k : Layout} (s : LiveBy k) → booked (by o d) m s ts ≡ booked o m s ts
    same_booked [] b s = refl
    same_booked (t ∷ ts) b {k} s =
        let rest : booked (by o d) m (offered (by o d) m s t) ts ≡ booked o m (offered o m s t) ts = same_booked ts b.1 (offered (by o d) m s t) ∙ ap (λ (q : LiveBy k). booked o m q ts) (same_offer t b.0 s) in
        (λ j. record { till = t; fate = same_fate t b.0 s j } ∷ rest j)

  same_message : (e : Entry) → message_of (by o d) e ≡ message_of o e
  same_message e = (λ j. record { from = e.from; now = e.now; kind = e.kind; class = e.class; scope = e.scope; wire = length e.wire; id = same.id j e.kind e.scope e.wire; tag = e.tag })

  -- ---- EVERY CALL

  module _ {k : Layout} (s : LiveBy k) where
    same_ten : (e : Entry) → (ask10 (by o d) s e).yes ≡ (ask10 o s e).yes
    same_ten e = (λ j. all_of (λ (t : ℕ). marked s t (same.id j e.kind e.scope e.wire) || ltb (slots_of k (ids_at s t)) o.sizes.seen_slots) (selected o s e.scope e.from))

    pub same_asked : (room : Room) (c : Call) → asked_in (by o d) room s c ≡ asked_in o room s c
    same_asked alone (accept e true) = (λ j. ask4 o e.from ∷ ask5 o e ∷ ask6 o e ∷ ask7 o e.now ∷ ask8 o s e ∷ ask9 o s e ∷ ask 10 (same_ten e j) ∷ ask11 o s e ∷ [])
    same_asked (pooled free) (accept e true) = (λ j. ask4 o e.from ∷ ask5 o e ∷ ask6 o e ∷ ask7 o e.now ∷ ask8 o s e ∷ ask9 o s e ∷ ask 10 (same_ten e j) ∷ ask_room o s e (pooled free) ∷ [])
    same_asked room (accept e false) = refl
    same_asked room (flush now rows) = refl
    same_asked room (take_down t) = refl
    same_asked room (bring_up t shards) = refl
    same_asked room (handlers t gossip host) = refl
    same_asked room (block from to) = refl
    same_asked room (block_during from to start end) = refl
    same_asked room (unblock from to) = refl
    same_asked room (install card) = refl
    same_asked room (remove id) = refl
    same_asked room (decide x) = refl
    same_asked room (drain rows) = refl
    same_asked room (reading x) = refl

    -- question 4 of an accepted entry
    from_below : (room : Room) (e : Entry) → first_no (asked_in o room s (accept e true)) ≡ 0 → e.from < o.sizes.tills
    from_below room e h = ltb-true e.from o.sizes.tills (all_yes (asked_in o room s (accept e true)) (apart_in o room s (accept e true)) h).0

    module _ (room : Room) where
      pub same_step : (c : Call) → first_no (asked_in o room s c) ≡ 0 → live_step (by o d) s c ≡ live_step o s c
      same_step (accept e true) h =
          let ts = selected o s e.scope e.from in
          ap (λ (m : Message). live_after (by o d) m s ts) (same_message e) ∙ same_after (message_of o e) (from_below room e h) ts (selected_below o s e.scope e.from) s
      same_step (accept e false) h = refl
      same_step (flush now rows) h = refl
      same_step (take_down t) h = refl
      same_step (bring_up t shards) h = refl
      same_step (handlers t gossip host) h = refl
      same_step (block from to) h = refl
      same_step (block_during from to start end) h = refl
      same_step (unblock from to) h = refl
      same_step (install card) h = refl
      same_step (remove id) h = refl
      same_step (decide x) h = (λ j. with_engine s (ruled s.engine (same.decide j x s.engine.rules s.engine.words)))
      same_step (drain rows) h = refl
      same_step (reading x) h = refl

      pub same_answer : (c : Call) → first_no (asked_in o room s c) ≡ 0 → answer_of (by o d) s c ≡ answer_of o s c
      same_answer (accept e true) h =
          let ts = selected o s e.scope e.from in
          ap (λ (l : List Booked). counted (tally l)) (ap (λ (m : Message). booked (by o d) m s ts) (same_message e) ∙ same_booked (message_of o e) (from_below room e h) ts (selected_below o s e.scope e.from) s)
      same_answer (accept e false) h = refl
      same_answer (flush now rows) h = refl
      same_answer (take_down t) h = refl
      same_answer (bring_up t shards) h = refl
      same_answer (handlers t gossip host) h = refl
      same_answer (block from to) h = refl
      same_answer (block_during from to start end) h = refl
      same_answer (unblock from to) h = refl
      same_answer (install card) h = refl
      same_answer (remove id) h = refl
      same_answer (decide x) h = (λ j. number 1 (bit (same.decide j x s.engine.rules s.engine.words).drops))
      same_answer (drain rows) h = refl
      same_answer (reading x) h = refl
