-- What accept's questions, answered "yes", say of the tables. Assumes nothing.
use Prim.Native.Nat.{ℕ, zero, suc, ◌+◌, ◌-◌, ◌*◌, ◌≤◌, ◌<◌}
use mathlib.Core.Path.{◌≡◌, refl, sym, ap, subst, ◌∙◌}
use mathlib.Core.Bool.{Bool, true, false, cond, ◌&&◌, ◌||◌}
use mathlib.Core.List.{List, ◌∷◌}
use mathlib.Core.Logic.{◌⊎◌, inl, inr, ⊎_elim}
use native.Mathlib.Omega.{arith}
use lib.Dec.{T, eqb, leb, ltb}
use lib.ListN.{length, get_or, get_or-eq_default}
use borrow.Author.Tests.{eqb-true, eqb-false, leb-true, ltb-true, ltb-false}
use Rattle.table_rows.specs.Rows.{keep, pick, all_of}
use Rattle.table_rows.specs.Lists.{up_to}
use Rattle.table_rows.proofs.Lists.{length_up_to}
use Rattle.link_geography.specs.Geography.{at_least_one}
use Rattle.fault_rules.specs.Rules.{rule_slots}
use Rattle.table_rings.specs.Rings.{none, entries, entry_of, count_of}
use Rattle.table_rings.proofs.Laws.{get_oldest}
use Rattle.table_rings.specs.declared.Entry.{Entry}
use Rattle.table_scan.proofs.Laws.{entries_long}
use Rattle.spec_network.specs.Opening.{global, longest_wire, latest_now, links, most_words, most_shards}
use Rattle.spec_network.specs.Live.{rings_of}
use Rattle.spec_network.specs.Tables.{cell, sizes_at, settings_at, fault_words_at, shard_at, rule_form}
use Rattle.spec_network.specs.Real.{key_width, region_at, pair_cells}
use Rattle.spec_book.proofs.Fitting.{length_keep}
use Rattle.ask_tables.specs.Held.{prices_held}
use Rattle.ask_tables.proofs.Ladder.{both, only, under, is_yes}
use Rattle.ask_tables.proofs.Passed.{PassedSetup, PassedNet, setup_says_lem, net_says_lem}
use Rattle.ask_tables.proofs.PassedRows.{PassedTills, PassedSeen, PassedBlocks, words_say, rules_say, keys_say, tills_say_lem, seen_says_lem, blocks_say_lem}
use Rattle.ask_rows.proofs.Passed.{PassedWaiting, PassedRings, PassedNames, waiting_says_lem, rings_say_lem, names_say_lem, prices_say_lem}
use Rattle.link_draws.specs.Drawing.{Priced}
use Rattle.call_message.specs.Message.{Named}
use Rattle.call_offer.specs.declared.Outgoing.{Outgoing}
use Rattle.call_offer.specs.Needed.{Fixed, SeenHeld, RingsHeld}
use Rattle.call_offer.specs.Offering.{selects_at}
use Rattle.call_recipients.specs.Turning.{rest, AdmittedFrom}
use Rattle.call_accept.proofs.Numbers.{all_passed}
use Rattle.ask_accept.specs.Asking.{accept_lent, argument_number, scope_exists, fresh_at, free_at, tail_number, Asked}

-- every selected till passes what all of them pass
all_at : (q p : ℕ → Bool) (k : ℕ) (f : ℕ → ℕ) → all_of p (keep q (up_to k f)) ≡ true → (i : ℕ) → i < k → q (f i) ≡ true → p (f i) ≡ true
all_at q p zero f h i l e = absurd (omega arith)
all_at q p (suc k) f h zero l e =
    (both (p (f 0)) (all_of p (keep q (up_to k (λ j. f (suc j))))) (ap (λ (b : Bool). all_of p (pick b (f 0 ∷ keep q (up_to k (λ j. f (suc j)))) (keep q (up_to k (λ j. f (suc j)))))) (sym e) ∙ h)).0
all_at q p (suc k) f h (suc i) l e = all_at q p k (λ j. f (suc j)) (go (q (f 0)) h) i (omega arith) e
  where
    go : (b : Bool) → all_of p (pick b (f 0 ∷ keep q (up_to k (λ j. f (suc j)))) (keep q (up_to k (λ j. f (suc j))))) ≡ true → all_of p (keep q (up_to k (λ j. f (suc j)))) ≡ true
    go true g = (both (p (f 0)) (all_of p (keep q (up_to k (λ j. f (suc j))))) g).1
    go false g = g

pub selected_at : (q p : ℕ → Bool) (n : ℕ) → all_of p (rest q n 0) ≡ true → (t : ℕ) → t < n → q t ≡ true → p t ≡ true
selected_at q p n h t l e =
    let z : 0 + t ≡ t = omega arith in
    subst (λ (i : ℕ). p i ≡ true) z (all_at q p (n - 0) (λ k. 0 + k) h t (omega arith) (subst (λ (i : ℕ). q i ≡ true) (sym z) e))

few_left : (q : ℕ → Bool) (n : ℕ) → length (rest q n 0) ≤ n
few_left q n = omega (arith, length_keep q (up_to (n - 0) (λ k. 0 + k)), length_up_to (n - 0) (λ (k : ℕ). 0 + k))

pub record Lent (setup net names tills words keys prices seen waiting rings rules blocks : List ℕ) : Type 0 where
  pub setup_says : PassedSetup setup
  pub net_says : PassedNet setup net
  pub names_say : PassedNames setup names
  pub tills_say : PassedTills setup tills
  pub words_size : length words ≡ links
  pub keys_size : length keys ≡ (sizes_at setup).tills * (sizes_at setup).tills * key_width
  pub prices_say : prices_held setup prices ≡ true
  pub seen_says : PassedSeen setup seen
  pub waiting_says : PassedWaiting setup net waiting
  pub rings_say : PassedRings setup rings
  pub rules_size : length rules ≡ rule_slots * rule_form.width
  pub blocks_say : PassedBlocks setup net blocks

module _ (setup net names tills words keys prices seen waiting rings rules blocks : List ℕ) where
  pub lent_says : accept_lent setup net names tills words keys prices seen waiting rings rules blocks ≡ true → Lent setup net names tills words keys prices seen waiting rings rules blocks
  unfolding accept_lent
  lent_says h =
      let q1 = both _ _ h in
      let q2 = both _ _ q1.1 in
      let q3 = both _ _ q2.1 in
      let q4 = both _ _ q3.1 in
      let q5 = both _ _ q4.1 in
      let q6 = both _ _ q5.1 in
      let q7 = both _ _ q6.1 in
      let q8 = both _ _ q7.1 in
      let q9 = both _ _ q8.1 in
      let q10 = both _ _ q9.1 in
      let q11 = both _ _ q10.1 in
      record {
        setup_says = setup_says_lem setup q1.0;
        net_says = net_says_lem setup net q2.0;
        names_say = names_say_lem setup names q3.0;
        tills_say = tills_say_lem setup tills q4.0;
        words_size = words_say words q5.0;
        keys_size = keys_say setup keys q6.0;
        prices_say = q7.0;
        seen_says = seen_says_lem setup seen q8.0;
        waiting_says = waiting_says_lem setup net waiting q9.0;
        rings_say = rings_say_lem setup rings q10.0;
        rules_size = rules_say rules q11.0;
        blocks_say = blocks_say_lem setup net blocks (only _ q11.1);
      }

  module _ (L : Lent setup net names tills words keys prices seen waiting rings rules blocks) where
    one_region : 0 < at_least_one (settings_at setup).plan.regions
    unfolding at_least_one
    one_region = omega arith

    unplanned : eqb (settings_at setup).plan.planned 0 ≡ true → length prices ≡ 0
    unfolding prices_held
    unplanned e =
        let a = both _ _ L.prices_say in
        eqb-true (length prices) _ a.0 ∙ ap (λ (b : Bool). cond b 0 (pair_cells (settings_at setup).plan + (sizes_at setup).tills)) e

    priced : Priced setup prices
    priced = record {
      size = L.setup_says.size;
      tills = L.setup_says.sizes.tills;
      regions = L.setup_says.sizes.regions;
      base = L.setup_says.ranges.latency;
      fraction = subst T (sym L.setup_says.ranges.jitter) tt;
      sits = λ t h. go (eqb (settings_at setup).plan.planned 0) refl t h;
      links = λ e i h. (prices_say_lem setup prices L.prices_say (eqb-false _ _ e)).links i h;
    }
      where
        go : (b : Bool) → eqb (settings_at setup).plan.planned 0 ≡ b → (t : ℕ) → t < (sizes_at setup).tills →
            region_at (settings_at setup).plan prices t < at_least_one (settings_at setup).plan.regions
        go true e t h =
            let z : region_at (settings_at setup).plan prices t ≡ 0 = get_or-eq_default prices 0 (omega (arith, unplanned e)) in
            omega (arith, one_region)
        go false e t h = (prices_say_lem setup prices L.prices_say (eqb-false _ _ e)).regions t h

    pub fixed : Fixed setup tills keys prices blocks
    fixed = record {
      priced = priced;
      types = L.setup_says.sizes.types;
      marks = L.setup_says.sizes.seen_slots;
      tills_size = L.tills_say.size;
      keys_size = L.keys_size;
      blocks_size = L.blocks_say.size;
    }

    pub seen_held_lem : SeenHeld (sizes_at setup) seen
    seen_held_lem = record { size = L.seen_says.size; counts = L.seen_says.counts }

    rings_held_lem : RingsHeld (sizes_at setup) rings
    rings_held_lem = record { size = L.rings_say.size; heads = L.rings_say.sound; near = near }
      where
        near : (r k : ℕ) → r < rings_of (sizes_at setup) → (entry_of (rings_of (sizes_at setup)) rings r k).wire ≤ longest_wire
        near r k h = subst (λ (e : Entry). e.wire ≤ longest_wire) (sym (get_oldest (rings_of (sizes_at setup)) rings r k (L.rings_say.sound r h))) (go (ltb k (count_of rings r)) refl)
          where
            go : (b : Bool) → ltb k (count_of rings r) ≡ b → (get_or (entries (rings_of (sizes_at setup)) rings r) k none).wire ≤ longest_wire
            go true e = (L.rings_say.near r k none h (ltb-true k (count_of rings r) e)).wire
            go false e =
                let long = entries_long (rings_of (sizes_at setup)) rings r in
                subst (λ (e : Entry). e.wire ≤ longest_wire)
                (sym (get_or-eq_default (entries (rings_of (sizes_at setup)) rings r) none (omega (arith, ltb-false k (count_of rings r) e)))) (omega arith)

    module _ (m : Outgoing) (from : m.from < (sizes_at setup).tills) (scope : m.scope ≤ global) where
      pub asked_facts : Asked setup tills m
      asked_facts = record { setup_size = L.setup_says.size; few = L.setup_says.sizes.tills; slots = L.setup_says.sizes.seen_slots; tills_size = L.tills_say.size; from = from; scope = scope }

      pub going : 0 ≡ tail_number setup net tills words seen m → AdmittedFrom setup net tills words seen waiting rings rules m 0
      unfolding tail_number
      going h =
          let a = under _ _ 7 (sym h) in
          let b = under _ _ 8 a.1 in
          let c = under _ _ 9 b.1 in
          let d = under _ _ 10 c.1 in
          let f = both _ _ a.0 in
          let few = few_left (λ t. selects_at tills m.scope m.from t) (sizes_at setup).tills in
          let fresh : cell net fault_words_at < most_words = ltb-true (cell net fault_words_at) most_words f.0 in
          record {
            state = record {
              net_size = L.net_says.size;
              rules_used = L.net_says.rules;
              blocks_used = L.net_says.blocks;
              fault_words = omega arith;
              words_size = L.words_size;
              seen_held = seen_held_lem;
              rings_held = rings_held_lem;
              rules_size = L.rules_size;
            };
            waiting_size = L.waiting_says.size;
            decisions = omega (arith, L.setup_says.sizes.tills);
            fresh = λ t l k e. ltb-true _ _ (selected_at (λ u. selects_at tills m.scope m.from u) (fresh_at words m) (sizes_at setup).tills f.1 t k e);
            numbers = leb-true _ _ b.0;
            free = λ t l k e n. ltb-true (cell seen t) (sizes_at setup).seen_slots (sym (ap (λ (x : Bool). x || ltb (cell seen t) (sizes_at setup).seen_slots) n) ∙
                selected_at (λ u. selects_at tills m.scope m.from u) (free_at setup seen m) (sizes_at setup).tills c.0 t k e);
            slots = leb-true _ _ d.0;
          }

-- as the call meets it
pub lent_in : {setup net names tills words keys prices seen waiting rings rules blocks : List ℕ} {b : Bool} →
    b ≡ accept_lent setup net names tills words keys prices seen waiting rings rules blocks → b ≡ true
    → Lent setup net names tills words keys prices seen waiting rings rules blocks
lent_in e h = lent_says _ _ _ _ _ _ _ _ _ _ _ _ (is_yes _ _ e h)

-- ---- The arguments

pub record Args (setup : List ℕ) (from kind class scope wire now : ℕ) : Type 0 where
  pub sender : from < (sizes_at setup).tills
  pub type : kind < (sizes_at setup).types
  pub klass : class < (sizes_at setup).classes
  pub target : scope_exists setup scope ≡ true
  pub short : wire ≤ longest_wire
  pub soon : now ≤ latest_now

pub arguments_say : (setup : List ℕ) (from kind class scope wire now k : ℕ) → k ≡ argument_number setup from kind class scope wire now 0 → k ≡ 0 → Args setup from kind class scope wire now
unfolding argument_number
arguments_say setup from kind class scope wire now k p z =
    let a : Bool = ltb kind (sizes_at setup).types in
    let b : Bool = ltb class (sizes_at setup).classes in
    let g = all_passed (ltb from (sizes_at setup).tills) (a && b && scope_exists setup scope) (leb wire longest_wire) (leb now latest_now) k p z in
    let x = both (a && b) (scope_exists setup scope) g.1 in
    let y = both a b x.0 in
    record { sender = ltb-true _ _ g.0; type = ltb-true _ _ y.0; klass = ltb-true _ _ y.1; target = x.1; short = leb-true _ _ g.2; soon = leb-true _ _ g.3 }

shard_or : (setup : List ℕ) (scope : ℕ) → (sizes_at setup).shards ≤ most_shards → scope_exists setup scope ≡ true → (scope ≡ global) ⊎ (scope < (sizes_at setup).shards)
shard_or setup scope l = go (eqb scope global) refl
  where
    go : (b : Bool) → eqb scope global ≡ b → (b || ltb scope (sizes_at setup).shards) ≡ true → (scope ≡ global) ⊎ (scope < (sizes_at setup).shards)
    go true e h = inl (eqb-true scope global e)
    go false e h = inr (ltb-true scope (sizes_at setup).shards h)

pub scope_in : (setup : List ℕ) (scope : ℕ) → (sizes_at setup).shards ≤ most_shards → scope_exists setup scope ≡ true → scope ≤ global
scope_in setup scope l h = ⊎_elim (λ (e : scope ≡ global). omega arith) (λ (e : scope < (sizes_at setup).shards). omega arith) (shard_or setup scope l h)

pub named : (setup names : List ℕ) (from kind class scope wire now : ℕ) → PassedSetup setup → PassedNames setup names → Args setup from kind class scope wire now → Named names kind scope
named setup names from kind class scope wire now S N A = record {
  long = N.size;
  type = omega (arith, A.type, S.sizes.types);
  target = scope_in setup scope S.sizes.shards A.target;
  name = N.names kind A.type;
  key = ⊎_elim (λ (e : scope ≡ global). out e) (λ (l : scope < (sizes_at setup).shards). N.keys scope l) (shard_or setup scope S.sizes.shards A.target);
}
  where
    out : scope ≡ global → cell names (shard_at scope) ≤ 16
    out e = let z : cell names (shard_at scope) ≡ 0 = get_or-eq_default names 0 (omega (arith, N.size)) in omega arith
