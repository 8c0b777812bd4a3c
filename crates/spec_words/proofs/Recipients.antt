-- What one call does to the word counts of what the tables hold.
use Prim.Native.Nat.{ℕ, ◌+◌, ◌*◌, ◌≤◌, ◌<◌}
use mathlib.Core.Path.{◌≡◌, refl}
use native.Mathlib.Omega.{arith}
use mathlib.Core.Bool.{true, false}
use mathlib.Core.List.{List, [], ◌∷◌}
use lib.Dec.{ltb}
use lib.ListN.{length, get_or}
use borrow.Author.Tests.{ltb-true}
use Rattle.table_rows.specs.Lists.{Each}
use Rattle.table_rows.proofs.Lists.{each_map}
use Rattle.fault_rules.specs.Rules.{rule_slots}
use Rattle.spec_network.specs.Opening.{Opening, link, most_words}
use Rattle.spec_network.specs.Live.{Live}
use Rattle.spec_network.specs.Accept.{Message, message_of, chosen, Drawn, drawn, Fate, deduplicated, partition, loss, fault, sent, fate_of, effect, offered, live_after}
use Rattle.spec_network.specs.Calls.{Call, live_step, accept, flush, take_down, bring_up, handlers, block, block_during, unblock, install, remove, decide, drain, reading}
use Rattle.spec_network.specs.Questions.{Room, asked_in, asked, first_no}
use Rattle.spec_book.proofs.Each.{both, all_each, each_set}
use Rattle.spec_book.proofs.Asking.{all_yes, apart_in, apart}
use Rattle.spec_book.proofs.Fitting.{Limited, length_ruled}
use Rattle.spec_book.proofs.Bounds.{DrawsFit}
use Rattle.spec_book.proofs.Words.{drawn_words, verdict_words, effect_words, effect_fault}
use Rattle.spec_book.proofs.Cells.{selected_few}
use Rattle.spec_words.specs.Words.{farthest, Near}

pub record LiveNear (s : Live) : Type 0 where
  pub links : Each Near s.words
  pub fault : Near s.engine.words

-- ---- One recipient

module _ (o : Opening) (m : Message) where
  effect_near : (c : Fate) (s : Live) (d : Drawn) (t : ℕ) → Near d.loss.words → Near d.latency.words → Near d.echoes.words → Near d.verdict.words → LiveNear s → LiveNear (effect o m c s d t)
  effect_near deduplicated s d t a b e v h = h
  effect_near partition s d t a b e v h = h
  effect_near loss s d t a b e v h = record { links = each_set Near s.words (link m.from t) d.loss.words h.links a; fault = h.fault }
  effect_near fault s d t a b e v h = record { links = each_set Near s.words (link m.from t) d.latency.words h.links b; fault = v }
  effect_near sent s d t a b e v h = record { links = each_set Near s.words (link m.from t) d.echoes.words h.links e; fault = v }

  effect_rules : (c : Fate) (s : Live) (d : Drawn) (t : ℕ) → length (effect o m c s d t).engine.rules ≡ length s.engine.rules
  effect_rules deduplicated s d t = refl
  effect_rules partition s d t = refl
  effect_rules loss s d t = refl
  effect_rules fault s d t = length_ruled d.verdict s.engine.rules
  effect_rules sent s d t = length_ruled d.verdict s.engine.rules

-- ---- An accept: 26 words at most for each recipient on its link, two for each of 64 rules on the fault stream

module _ (o : Opening) (g : DrawsFit o) (m : Message) where
  accept_near : (ts : List ℕ) (s : Live) (W : ℕ) → length s.engine.rules ≤ rule_slots → Each (λ (t : ℕ). get_or s.words (link m.from t) 0 ≤ W) ts
      → W + 26 * length ts < farthest → s.engine.words + 128 * length ts < farthest → LiveNear s → LiveNear (live_after o m s ts)
  unfolding offered
  accept_near [] s W r ws e v h = h
  accept_near (t ∷ ts) s W r ws e v h =
      let d = drawn o m t s in
      let c = fate_of o m s t in
      let x = drawn_words o g m t s in
      let y : d.verdict.words ≤ s.engine.words + 128 = omega (arith, verdict_words o g m t s, r) in
      let at : (u : ℕ) → get_or s.words (link m.from u) 0 ≤ W → get_or (effect o m c s d t).words (link m.from u) 0 ≤ W + 26 =
      λ u q. effect_words o m c s d t (link m.from u) (W + 26) (omega (arith, q)) (omega (arith, x.loss, ws.0)) (omega (arith, x.latency, ws.0)) (omega (arith, x.echoes, ws.0)) in
      accept_near ts (effect o m c s d t) (W + 26) (omega (arith, effect_rules o m c s d t, r))
      (each_map (λ (u : ℕ). get_or s.words (link m.from u) 0 ≤ W) (λ (u : ℕ). get_or (effect o m c s d t).words (link m.from u) 0 ≤ W + 26) ts at ws.1)
      (omega arith) (omega (arith, effect_fault o m c s d t (s.engine.words + 128) (omega arith) y))
      (effect_near o m c s d t (omega (arith, x.loss, ws.0)) (omega (arith, x.latency, ws.0)) (omega (arith, x.echoes, ws.0)) (omega (arith, y)) h)

-- ---- Every call that no number refuses: question 8 is answered "yes"

module _ (o : Opening) (lim : Limited o.sizes) (g : DrawsFit o) where
  pub step_near : (room : Room) (c : Call) (s : Live) → length s.engine.rules ≤ rule_slots → first_no (asked_in o room s c) ≡ 0 → LiveNear s → LiveNear (live_step o s c)
  step_near room (accept e true) s r h k =
      let y = all_yes (asked_in o room s (accept e true)) (apart_in o room s (accept e true)) h in
      let ts = chosen o s e in
      let fresh = both (ltb s.engine.words most_words) _ y.1.1.1.1.0 in
      let words = each_map (λ (t : ℕ). ltb (get_or s.words (link e.from t) 0) most_words ≡ true) (λ (t : ℕ). get_or s.words (link e.from t) 0 ≤ most_words) ts
      (λ t l. less (get_or s.words (link e.from t) 0) l) (all_each _ ts fresh.1) in
      let few : length ts ≤ 64 = omega (arith, selected_few o s e.scope e.from, lim.tills) in
      accept_near o g (message_of o e) ts s most_words r words (omega (arith, few)) (omega (arith, few, ltb-true s.engine.words most_words fresh.0)) k
    where
      less : (n : ℕ) → ltb n most_words ≡ true → n ≤ most_words
      less n l = omega (arith, ltb-true n most_words l)
  step_near room (accept e false) s r h k = k
  step_near room (flush now rows) s r h k = record { links = k.links; fault = k.fault }
  step_near room (take_down t) s r h k = record { links = k.links; fault = k.fault }
  step_near room (bring_up t shards) s r h k = record { links = k.links; fault = k.fault }
  step_near room (handlers t gossip host) s r h k = record { links = k.links; fault = k.fault }
  step_near room (block from to) s r h k = record { links = k.links; fault = k.fault }
  step_near room (block_during from to start end) s r h k = record { links = k.links; fault = k.fault }
  step_near room (unblock from to) s r h k = record { links = k.links; fault = k.fault }
  step_near room (install card) s r h k = record { links = k.links; fault = k.fault }
  step_near room (remove id) s r h k = record { links = k.links; fault = k.fault }
  step_near room (decide x) s r h k =
      let y = all_yes (asked o s (decide x)) (apart o s (decide x)) h in
      record { links = k.links; fault = omega (arith, g.decide x s.engine.rules s.engine.words, r, ltb-true s.engine.words most_words y.1.1.1.0) }
  step_near room (drain rows) s r h k = record { links = k.links; fault = k.fault }
  step_near room (reading x) s r h k = k
