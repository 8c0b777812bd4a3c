-- The echoes of a recipient: at most two, each of what its ring or the message carries.
use mathlib.Core.Path.{◌≡◌, refl, ap}
use Prim.Native.Nat.{ℕ, suc, ◌≤◌}
use native.Mathlib.Omega.{arith}
use mathlib.Core.Bool.{Bool, true, false, cond, not, ◌&&◌}
use mathlib.Core.List.{List, [], ◌∷◌}
use lib.ListN.{length, get_or, length-append}
use Rattle.table_rows.specs.Lists.{Each}
use Rattle.spec_network.specs.Opening.{Opening, Draw}
use Rattle.spec_network.specs.Layout.{Layout}
use Rattle.spec_network.specs.Live.{Carried, LiveBy}
use Rattle.spec_network.specs.Accept.{Message, Echoed, duplicate_of, replay_of, Timed, Echoes, drawn, timed, is_empty, replayed, echoed, echoes_of, carried_of, ring_for}
use Rattle.spec_book.proofs.Each.{each_append, each_at}

module _ (o : Opening) (m : Message) (t : ℕ) where
  timed_length : (es : List Echoed) (w : ℕ) → length (timed o m t w es).all ≡ length es
  timed_length [] w = refl
  timed_length (e ∷ es) w = ap suc (timed_length es (o.draws.latency m.from t e.carried.wire w).words)

  replayed_few : (ring : List Carried) (w : ℕ) → length (replayed o m t ring w).value ≤ 1
  replayed_few ring w = go ((o.draws.replay m.from t w).value && not (is_empty ring)) _ _ _ (omega arith)
    where
      go : (b : Bool) (c : Echoed) (x y : ℕ) → 0 ≤ 1 → length (cond {A = Draw (List Echoed)} b (record { value = c ∷ []; words = x }) (record { value = []; words = y })).value ≤ 1
      go true c x y h = omega arith
      go false c x y h = omega arith

  dup_few : (b : Bool) → length (cond {A = List Echoed} b (duplicate_of (carried_of m) ∷ []) []) ≤ 1
  dup_few true = omega arith
  dup_few false = omega arith

  pub echoed_few : (ring : List Carried) (w : ℕ) → length (echoed o m t ring w).value ≤ 2
  echoed_few ring w =
      let d = o.draws.duplicate m.from t w in
      omega (arith, length-append (cond {A = List Echoed} d.value (duplicate_of (carried_of m) ∷ []) []) (replayed o m t ring d.words).value, dup_few d.value, replayed_few ring d.words)

  echoes_few : (ring : List Carried) (w : ℕ) → length (echoes_of o m t ring w).all ≤ 2
  echoes_few ring w = let e = echoed o m t ring w in go o.draws.echoing (timed o m t e.words e.value) (omega (arith, timed_length e.value e.words, echoed_few ring w))
    where
      go : (b : Bool) (x : Echoes) → length x.all ≤ 2 → length (cond b x (record { all = []; words = w })).all ≤ 2
      go true x h = h
      go false x h = omega arith

  pub drawn_few : {k : Layout} (s : LiveBy k) → length (drawn o m t s).echoes.all ≤ 2
  unfolding drawn
  drawn_few s = echoes_few (ring_for s m) _

  -- what holds of everything that the ring and the message carry, holds of what is echoed
  module _ (P : Timed → Type 0) (Q : Carried → Type 0)
      (f : (e : Echoed) (w : ℕ) → Q e.carried → P (record { what = e; latency = (o.draws.latency m.from t e.carried.wire w).value })) (mine : Q (carried_of m)) where
    abbrev R : Echoed → Type 0
    R e = Q e.carried

    timed_each : (es : List Echoed) (w : ℕ) → Each R es → Each P (timed o m t w es).all
    timed_each [] w h = tt
    timed_each (e ∷ es) w h = (f e w h.0, timed_each es (o.draws.latency m.from t e.carried.wire w).words h.1)

    replayed_each : (ring : List Carried) (w : ℕ) → Each Q ring → Each R (replayed o m t ring w).value
    replayed_each ring w e =
        let hit = o.draws.replay m.from t w in
        let at = o.draws.index m.from t (length ring) hit.words in
        go (hit.value && not (is_empty ring)) (replay_of (get_or ring at.value (carried_of m))) at.words hit.words (each_at Q ring at.value (carried_of m) e mine)
      where
        go : (b : Bool) (c : Echoed) (x y : ℕ) → R c → Each R (cond {A = Draw (List Echoed)} b (record { value = c ∷ []; words = x }) (record { value = []; words = y })).value
        go true c x y h = (h, tt)
        go false c x y h = tt

    dup_each : (b : Bool) → Each R (cond {A = List Echoed} b (duplicate_of (carried_of m) ∷ []) [])
    dup_each true = (mine, tt)
    dup_each false = tt

    echoes_each : (ring : List Carried) (w : ℕ) → Each Q ring → Each P (echoes_of o m t ring w).all
    echoes_each ring w e =
        let x = echoed o m t ring w in
        let d = o.draws.duplicate m.from t w in
        go o.draws.echoing (timed o m t x.words x.value)
        (timed_each x.value x.words
        (each_append R (cond {A = List Echoed} d.value (duplicate_of (carried_of m) ∷ []) []) (replayed o m t ring d.words).value (dup_each d.value) (replayed_each ring d.words e)))
      where
        go : (b : Bool) (x : Echoes) → Each P x.all → Each P (cond b x (record { all = []; words = w })).all
        go true x h = h
        go false x h = tt

    pub drawn_each : {k : Layout} (s : LiveBy k) → Each Q (ring_for s m) → Each P (drawn o m t s).echoes.all
    unfolding drawn
    drawn_each s e = echoes_each (ring_for s m) _ e
