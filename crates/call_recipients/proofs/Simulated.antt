-- An offer on the tables is the book's offer on what they hold, whatever the log holds. Assumes nothing.
use Prim.Native.Nat.{ℕ, ◌+◌, ◌≤◌, ◌<◌}
use mathlib.Core.Path.{◌≡◌, refl, sym, ap, subst, ◌∙◌}
use mathlib.Core.Bool.{Bool, true, false, cond}
use mathlib.Core.List.{List, [], ◌∷◌}
use native.Mathlib.Omega.{arith}
use lib.ListN.{length, replicate, drop, length-append, length-replicate, length-drop}
use Rattle.table_marks.specs.Marks.{placed}
use Rattle.table_rings.specs.Rings.{number_of, pushed}
use Rattle.fault_rules.specs.Rules.{fire_table}
use Rattle.fault_decide.specs.Decide.{Decision}
use Rattle.table_waiting.specs.declared.Copy.{Copy}
use Rattle.table_log.specs.Log.{cleared_at, records_at, size_of, log_of, Log}
use Rattle.table_log.proofs.Draining.{drained_sound}
use Rattle.spec_network.specs.Opening.{Opening, Sizes, link}
use Rattle.spec_network.specs.Live.{Live, with_log, ids_at, rings_of}
use Rattle.spec_network.specs.Tables.{cell, Tables, live, waiting_at, fault_words_at}
use Rattle.spec_network.specs.Accept.{Message, carried_of, Drawn, drawn, Fate, deduplicated, partition, loss, fault, sent, fate_of, copies, effect, offered}
use Rattle.spec_network.specs.Writes.{set_log, set_rules, set_rings, net_t, words_t, ruled_t, marks_t, push_t, remember_t, effect_t, offered_t}
use Rattle.spec_book.proofs.Formed.{LogFormed, Formed, Wrote}
use Rattle.spec_book.proofs.Fitting.{NearMessage}
use Rattle.spec_book.proofs.Echoing.{drawn_few}
use Rattle.spec_book.proofs.Simulation.{effect_wrote}

-- an empty log of the opening's size
pub quiet : Sizes → List ℕ
quiet z = cleared_at (replicate (size_of z.log_slots) 0)

pub quiet_formed : (z : Sizes) → LogFormed z (quiet z)
unfolding quiet cleared_at
quiet_formed z = record {
  size = length-append {A = ℕ} (replicate records_at 0) (drop records_at (replicate (size_of z.log_slots) 0))
      ∙ omega (arith, length-replicate {A = ℕ} records_at 0, length-drop {A = ℕ} records_at (replicate (size_of z.log_slots) 0), length-replicate {A = ℕ} (size_of z.log_slots) 0);
  head = drained_sound z.log_slots (replicate (size_of z.log_slots) 0);
}

-- ---- The log is neither read nor written

push_log : (z : Sizes) (cs : List Copy) (T : Tables) (l : List ℕ) → push_t z (set_log T l) cs ≡ set_log (push_t z T cs) l
push_log z [] T l = refl
push_log z (c ∷ cs) T l = push_log z cs _ l

either : (b : Bool) (T U : Tables) (l : List ℕ) → cond b (set_log T l) (set_log U l) ≡ set_log (cond b T U) l
either true T U l = refl
either false T U l = refl

ruled_log : (T : Tables) (v : Decision) (l : List ℕ) → ruled_t (set_log T l) v ≡ set_log (ruled_t T v) l
ruled_log T v l = either v.drops (set_rules (net_t T fault_words_at v.words) (fire_table T.rules v.place)) (net_t T fault_words_at v.words) l

module _ (o : Opening) (m : Message) where
  remember_log : (T : Tables) (l : List ℕ) → remember_t o m (set_log T l) ≡ set_log (remember_t o m T) l
  remember_log T l = either o.draws.echoing (set_rings T (pushed (rings_of o.sizes) T.rings (number_of m.kind m.scope) (carried_of m))) T l

  effect_log : (c : Fate) (T : Tables) (d : Drawn) (t : ℕ) (l : List ℕ) → effect_t o m c (set_log T l) d t ≡ set_log (effect_t o m c T d t) l
  effect_log deduplicated T d t l = refl
  effect_log partition T d t l = refl
  effect_log loss T d t l = refl
  effect_log fault T d t l = ruled_log (words_t T (link m.from t) d.latency.words) d.verdict l
  effect_log sent T d t l =
      let s = live o.sizes T in
      let cs : List Copy = copies o m s d t in
      let ids : List ℕ = placed m.id (ids_at s t) in
      let T₁ : Tables = ruled_t (words_t T (link m.from t) d.echoes.words) d.verdict in
      ap (λ (q : Tables). remember_t o m (push_t o.sizes (marks_t o.sizes q t ids) cs)) (ruled_log (words_t T (link m.from t) d.echoes.words) d.verdict l)
      ∙ ap (remember_t o m) (push_log o.sizes cs (marks_t o.sizes T₁ t ids) l)
      ∙ remember_log (push_t o.sizes (marks_t o.sizes T₁ t ids) cs) l

  effect_with : (c : Fate) (s : Live) (d : Drawn) (t : ℕ) (l : Log) → with_log (effect o m c s d t) l ≡ effect o m c (with_log s l) d t
  effect_with deduplicated s d t l = refl
  effect_with partition s d t l = refl
  effect_with loss s d t l = refl
  effect_with fault s d t l = refl
  effect_with sent s d t l = refl

  -- THE LAW
  module _ (k : NearMessage o.sizes m) (T : Tables) (t : ℕ) (f : Formed o.sizes (set_log T (quiet o.sizes))) (b : t < o.sizes.tills)
      (slot : fate_of o m (live o.sizes T) t ≡ sent → length (ids_at (live o.sizes T) t) < o.sizes.seen_slots) (room : cell T.net waiting_at + 3 ≤ o.sizes.wait_slots) where
    abbrev s : Live
    s = live o.sizes T

    abbrev c : Fate
    c = fate_of o m s t

    abbrev d : Drawn
    d = drawn o m t s

    abbrev q : List ℕ
    q = quiet o.sizes

    done : Wrote o.sizes (effect_t o m c (set_log T q) d t) (effect o m c (live o.sizes (set_log T q)) d t)
    done = effect_wrote o m k c (set_log T q) d t f (drawn_few o m t s) b slot room

    pub after_formed : Formed o.sizes (set_log (offered_t o m T t) q)
    after_formed = subst (Formed o.sizes) (effect_log c T d t q) done.formed

    log_kept : (offered_t o m T t).log ≡ T.log
    log_kept = ap (λ (x : Tables). x.log) (effect_log c T d t T.log)

    pub after_live : live o.sizes (offered_t o m T t) ≡ offered o m s t
    unfolding offered
    after_live =
        (λ j. with_log (live o.sizes (sym (effect_log c T d t q) j)) (log_of o.sizes.log_slots (log_kept j)))
        ∙ ap (λ (x : Live). with_log x s.log) done.holds
        ∙ effect_with c (live o.sizes (set_log T q)) d t s.log
