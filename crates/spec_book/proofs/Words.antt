-- The words that a recipient's draws take: the counts of its link and of the fault stream after them.
use Prim.Native.Nat.{ℕ, zero, suc, ◌+◌, ◌*◌, ◌≤◌}
use native.Mathlib.Omega.{arith}
use mathlib.Core.Bool.{Bool, true, false, cond, not, ◌&&◌}
use mathlib.Core.List.{List, [], ◌∷◌}
use lib.ListN.{length, get_or, set}
use Rattle.spec_network.specs.Opening.{Draw, Opening, link}
use Rattle.spec_network.specs.Layout.{Layout}
use Rattle.spec_network.specs.Live.{Carried, LiveBy}
use Rattle.spec_network.specs.Accept.{Message, Echoed, Echoes, Drawn, drawn, context, ring_for, is_empty, timed, replayed, echoed, echoes_of, Fate, deduplicated, partition, loss, fault, sent, effect}
use Rattle.spec_book.proofs.Echoing.{echoed_few}
use Rattle.spec_book.proofs.Bounds.{DrawsFit}

-- a cell anew stays at or below what old and new are
pub set_most : (l : List ℕ) (i v j B : ℕ) → get_or l j 0 ≤ B → v ≤ B → get_or (set l i v) j 0 ≤ B
set_most [] i v j B h k = h
set_most (x ∷ l) zero v zero B h k = k
set_most (x ∷ l) zero v (suc j) B h k = h
set_most (x ∷ l) (suc i) v zero B h k = h
set_most (x ∷ l) (suc i) v (suc j) B h k = set_most l i v j B h k

-- ---- The draws for one recipient

-- where they leave its link's count, which was w: loss 2, latency 6, duplicate 2, replay 2, ring index 2, the latencies of two echoes 12
pub record WordsOf (w : ℕ) (d : Drawn) : Type 0 where
  pub loss : d.loss.words ≤ w + 26
  pub latency : d.latency.words ≤ w + 26
  pub echoes : d.echoes.words ≤ w + 26

module _ (o : Opening) (g : DrawsFit o) (m : Message) (t : ℕ) where
  timed_words : (es : List Echoed) (w : ℕ) → (timed o m t w es).words ≤ w + 6 * length es
  timed_words [] w = omega arith
  timed_words (e ∷ es) w =
      let n : ℕ = (o.draws.latency m.from t e.carried.wire w).words in
      omega (arith, timed_words es n, g.latency_words_fit m.from t e.carried.wire w)

  replayed_words : (ring : List Carried) (w : ℕ) → (replayed o m t ring w).words ≤ w + 4
  replayed_words ring w =
      let hit = o.draws.replay m.from t w in
      let at = o.draws.index m.from t (length ring) hit.words in
      go (hit.value && not (is_empty ring)) _ at.words hit.words (omega (arith, g.index m.from t (length ring) hit.words, g.replay m.from t w)) (omega (arith, g.replay m.from t w))
    where
      go : (x : Bool) (l : List Echoed) (u v : ℕ) → u ≤ w + 4 → v ≤ w + 4 → (cond {A = Draw (List Echoed)} x (record { value = l; words = u }) (record { value = []; words = v })).words ≤ w + 4
      go true l u v h r = h
      go false l u v h r = r

  echoed_words : (ring : List Carried) (w : ℕ) → (echoed o m t ring w).words ≤ w + 6
  echoed_words ring w = let d = o.draws.duplicate m.from t w in omega (arith, g.duplicate m.from t w, replayed_words ring d.words)

  echoes_words : (ring : List Carried) (w : ℕ) → (echoes_of o m t ring w).words ≤ w + 18
  echoes_words ring w =
      let e = echoed o m t ring w in
      go o.draws.echoing (timed o m t e.words e.value) (omega (arith, timed_words e.value e.words, echoed_words ring w, echoed_few o m t ring w))
    where
      go : (x : Bool) (y : Echoes) → y.words ≤ w + 18 → (cond x y (record { all = []; words = w })).words ≤ w + 18
      go true y h = h
      go false y h = omega arith

  pub drawn_words : {k : Layout} (s : LiveBy k) → WordsOf (get_or s.words (link m.from t) 0) (drawn o m t s)
  unfolding drawn
  drawn_words s =
      let w : ℕ = get_or s.words (link m.from t) 0 in
      let l = o.draws.loss m.from t w in
      let d = o.draws.latency m.from t m.wire l.words in
      record {
        loss = omega (arith, g.loss m.from t w);
        latency = omega (arith, g.loss m.from t w, g.latency_words_fit m.from t m.wire l.words);
        echoes = omega (arith, g.loss m.from t w, g.latency_words_fit m.from t m.wire l.words, echoes_words (ring_for s m) d.words);
      }

  -- two words at most for each rule
  pub verdict_words : {k : Layout} (s : LiveBy k) → (drawn o m t s).verdict.words ≤ s.engine.words + 2 * length s.engine.rules
  unfolding drawn
  verdict_words s = g.decide (context o m t) s.engine.rules s.engine.words

-- ---- What an effect does to the counts

module _ (o : Opening) (m : Message) {k : Layout} where
  pub effect_words : (c : Fate) (s : LiveBy k) (d : Drawn) (t i B : ℕ) → get_or s.words i 0 ≤ B → d.loss.words ≤ B → d.latency.words ≤ B → d.echoes.words ≤ B → get_or (effect o m c s d t).words i 0 ≤ B
  effect_words deduplicated s d t i B h a b e = h
  effect_words partition s d t i B h a b e = h
  effect_words loss s d t i B h a b e = set_most s.words (link m.from t) d.loss.words i B h a
  effect_words fault s d t i B h a b e = set_most s.words (link m.from t) d.latency.words i B h b
  effect_words sent s d t i B h a b e = set_most s.words (link m.from t) d.echoes.words i B h e

  pub effect_fault : (c : Fate) (s : LiveBy k) (d : Drawn) (t B : ℕ) → s.engine.words ≤ B → d.verdict.words ≤ B → (effect o m c s d t).engine.words ≤ B
  effect_fault deduplicated s d t B h v = h
  effect_fault partition s d t B h v = h
  effect_fault loss s d t B h v = h
  effect_fault fault s d t B h v = v
  effect_fault sent s d t B h v = v
