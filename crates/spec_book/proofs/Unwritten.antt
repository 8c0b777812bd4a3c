-- No call but the opening writes `setup`, `names`, `keys` or `prices`.
use mathlib.Core.Path.{◌≡◌, refl, ◌∙◌}
use Prim.Native.Nat.{ℕ}
use mathlib.Core.Bool.{Bool, true, false, cond, ◌&&◌}
use mathlib.Core.List.{List, [], ◌∷◌}
use Rattle.table_waiting.specs.declared.Copy.{Copy}
use Rattle.table_marks.specs.Marks.{placed, removed}
use Rattle.table_rings.specs.Rings as rings
use Rattle.fault_rules.specs.Rules.{fire_table}
use Rattle.fault_decide.specs.Decide.{Decision}
use Rattle.spec_network.specs.Opening.{Sizes, Opening, link}
use Rattle.spec_network.specs.Live.{Live, is_original, ids_at, rings_of}
use Rattle.spec_network.specs.Accept.{Message, message_of, selected, Drawn, drawn, Fate, deduplicated, partition, loss, fault, sent, fate_of, copies, carried_of}
use Rattle.spec_network.specs.Flush.{served, later, stops, lands}
use Rattle.spec_network.specs.Calls.{Call, accept, flush, take_down, bring_up, handlers, block, block_during, unblock, install, remove, decide, drain, reading}
use Rattle.spec_network.specs.Tables.{Tables, live, fault_words_at}
use Rattle.spec_network.specs.Real.{opening_at}
use Rattle.spec_network.specs.Writes.{is_number, number_in, exit_t, set_rules, set_rings, net_t, words_t, marks_t, waiting_t, ruled_t, record_all_t, push_t, remember_t, effect_t, offered_t, accept_t, clear_t, step_t}
use Rattle.spec_book.specs.Demand3.{Item, own, others, reopen, tables_after, tables_at_end}
use Rattle.spec_book.proofs.Formed.{four_of}

module _ (z : Sizes) where
  same_ruled : (T : Tables) (v : Decision) → four_of (ruled_t T v) ≡ four_of T
  same_ruled T v = go v.drops
    where
      go : (b : Bool) → four_of (cond b (set_rules (net_t T fault_words_at v.words) (fire_table T.rules v.place)) (net_t T fault_words_at v.words)) ≡ four_of T
      go true = refl
      go false = refl

  same_push : (cs : List Copy) (T : Tables) → four_of (push_t z T cs) ≡ four_of T
  same_push [] T = refl
  same_push (c ∷ cs) T = same_push cs _

  same_clear : (s : Live) (cs : List Copy) (T : Tables) → four_of (clear_t z s cs T) ≡ four_of T
  same_clear s [] T = refl
  same_clear s (c ∷ cs) T = same_clear s cs _ ∙ go (stops s c && is_original c)
    where
      go : (b : Bool) → four_of (cond b (marks_t z T c.delivery.to (removed c.id (ids_at (live z T) c.delivery.to))) T) ≡ four_of T
      go true = refl
      go false = refl

  same_records : (cs : List Copy) (T : Tables) → four_of (record_all_t z T cs) ≡ four_of T
  same_records [] T = refl
  same_records (c ∷ cs) T = same_records cs _

module _ (o : Opening) where
  module _ (m : Message) where
    same_remember : (T : Tables) → four_of (remember_t o m T) ≡ four_of T
    same_remember T = go o.draws.echoing
      where
        go : (b : Bool) → four_of (cond b (set_rings T (rings.pushed (rings_of o.sizes) T.rings (rings.number_of m.kind m.scope) (carried_of m))) T) ≡ four_of T
        go true = refl
        go false = refl

    same_effect : (k : Fate) (T : Tables) (d : Drawn) (t : ℕ) → four_of (effect_t o m k T d t) ≡ four_of T
    same_effect deduplicated T d t = refl
    same_effect partition T d t = refl
    same_effect loss T d t = refl
    same_effect fault T d t = same_ruled o.sizes (words_t T (link m.from t) d.latency.words) d.verdict
    same_effect sent T d t =
        let s = live o.sizes T in
        let T₁ = ruled_t (words_t T (link m.from t) d.echoes.words) d.verdict in
        let T₂ = marks_t o.sizes T₁ t (placed m.id (ids_at s t)) in
        same_remember (push_t o.sizes T₂ (copies o m s d t)) ∙ same_push o.sizes (copies o m s d t) T₂ ∙ same_ruled o.sizes (words_t T (link m.from t) d.echoes.words) d.verdict

    same_accept : (ts : List ℕ) (T : Tables) → four_of (accept_t o m T ts) ≡ four_of T
    same_accept [] T = refl
    same_accept (t ∷ ts) T = same_accept ts (offered_t o m T t) ∙ same_effect (fate_of o m (live o.sizes T) t) T (drawn o m t (live o.sizes T)) t

  pub same_step : (T : Tables) (c : Call) → four_of (step_t o T c) ≡ four_of T
  same_step T (accept e true) = same_accept (message_of o e) (selected o (live o.sizes T) e.scope e.from) T
  same_step T (accept e false) = refl
  same_step T (flush now rows) =
      let s = live o.sizes T in
      let T₁ = clear_t o.sizes s (served now rows s) T in
      same_records o.sizes (lands s (served now rows s)) (waiting_t T₁ (later now rows s)) ∙ same_clear o.sizes s (served now rows s) T
  same_step T (take_down t) = refl
  same_step T (bring_up t shards) = refl
  same_step T (handlers t gossip host) = refl
  same_step T (block from to) = refl
  same_step T (block_during from to start end) = refl
  same_step T (unblock from to) = refl
  same_step T (install card) = refl
  same_step T (remove id) = refl
  same_step T (decide x) = same_ruled o.sizes T (o.draws.decide x (live o.sizes T).engine.rules (live o.sizes T).engine.words)
  same_step T (drain n) = refl
  same_step T (reading r) = refl

-- ---- Every list

same_exit : (p : Opening) (T : Tables) (c : Call) (r : Bool) → four_of (exit_t p r T c) ≡ four_of T
same_exit p T c true = refl
same_exit p T c false = same_step p T c

pub same_after : (T : Tables) (i : Item) → four_of (tables_after T i) ≡ four_of T
same_after T (own room c) = same_exit (opening_at T) T c (is_number (number_in (opening_at T) room T c))
same_after T (others X c) = refl
same_after T (reopen X y ms) = refl

pub same_end : (is : List Item) (T : Tables) → four_of (tables_at_end T is) ≡ four_of T
same_end [] T = refl
same_end (i ∷ is) T = same_end is (tables_after T i) ∙ same_after T i
