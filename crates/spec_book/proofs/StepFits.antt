-- Every call leaves a live part that fits the tables.
use mathlib.Core.Path.{◌≡◌, refl, sym, ◌∙◌}
use Prim.Native.Nat.{ℕ, suc, ◌+◌, ◌^◌, ◌≤◌, max}
use lib.Pow.{pow_pos}
use native.Mathlib.Omega.{arith}
use native.Mathlib.Nat.{le_refl, le_trans}
use mathlib.Core.Bool.{Bool, true, false, cond, ◌&&◌, ◌||◌, false≢true}
use mathlib.Core.List.{List, [], ◌∷◌, ◌++◌}
use lib.Dec.{eqb, leb, ltb}
use lib.ListN.{length, get_or, set, length-set, length-replicate, length-append}
use borrow.Author.Tests.{ltb-true, lt-ltb, eqb-true}
use Rattle.table_rows.specs.Rows.{all_of}
use Rattle.table_rows.specs.Lists.{Each}
use Rattle.table_ring.specs.Ring.{push}
use Rattle.table_rows.proofs.Lists.{length_up_to}
use Rattle.table_delivery.specs.declared.Delivery.{Delivery}
use Rattle.table_waiting.specs.declared.Copy.{Copy}
use Rattle.table_marks.specs.Marks.{removed, Ordered}
use Rattle.table_marks.proofs.Ordered.{none_ordered, length_removed}
use Rattle.fault_rules.specs.declared.FaultRule.{FaultRule}
use Rattle.spec_network.specs.Lists.{within}
use Rattle.spec_network.specs.Opening.{Sizes, Opening, links, global, longest_wire}
use Rattle.fault_rules.specs.Rules.{rule_slots, most_rules, without}
use Rattle.fault_blocks.specs.Blocks.{block_slots, always, during}
use Rattle.fault_blocks.specs.declared.BlockWindow.{BlockWindow}
use Rattle.table_rings.specs.Rings.{slots}
use Rattle.spec_network.specs.Layout.{table}
use Rattle.spec_network.specs.Live.{Carried, Till, down_till, up_till, Engine, Live, opening_live, is_original, rings_of, till_at, with_tills, with_engine, with_blocks}
use Rattle.spec_network.specs.Accept.{Entry, message_of, selected}
use Rattle.spec_network.specs.Flush.{served, stops, lands, unmark, clearing, logged_all}
use Rattle.table_log.specs.Log as log
use Rattle.table_log.specs.Log.{Log, logged, tallied, wrap, no_tally}
use Rattle.spec_network.specs.Calls.{Call, live_step, with_handlers, accept, flush, take_down, bring_up, handlers, block, block_during, unblock, install, remove, decide, drain, reading}
use Rattle.spec_network.specs.Questions.{Room, asked_in, asked, first_no}
use Rattle.spec_network.specs.Lent.{near_till, near_delivery, near_copy, near_block}
use Rattle.spec_book.proofs.Each.{both, join, each_set, each_at, each_replicate, each_append, each_push, each_keep, each_up_to, all_each}
use Rattle.spec_book.proofs.Sound.{selected_below, length_clearing}
use Rattle.spec_book.proofs.Marks.{clearing_ordered}
use Rattle.spec_book.proofs.Asking.{apart_in, room_fits, all_yes, apart}
use Rattle.spec_book.proofs.Serving.{served_each, later_each, later_short}
use Rattle.spec_book.proofs.Fitting.{Limited, Small, Fits, EngineFits, NearRing, LogFits, NearMessage, accept_fits, ruled_fits, length_keep, length_push}

-- ---- Flush

clearing_small : (n : ℕ) (s : Live) (cs : List Copy) (seen : List (List ℕ)) → Each (Small n) seen → Each (Small n) (clearing s cs seen)
clearing_small n s [] seen e = e
clearing_small n s (c ∷ cs) seen e = clearing_small n s cs (cond (stops s c && is_original c) (unmark table c.delivery.to c.id seen) seen) (go (stops s c && is_original c))
  where
    go : (b : Bool) → Each (Small n) (cond b (unmark table c.delivery.to c.id seen) seen)
    go true = each_set (Small n) seen c.delivery.to (removed c.id (get_or seen c.delivery.to [])) e
        (le_trans (length_removed c.id (get_or seen c.delivery.to [])) (each_at (Small n) seen c.delivery.to [] e (omega arith)))
    go false = e

module _ (z : Sizes) where
  logged_fits : (n : ℕ) (l : Log) (d : Delivery) → n ≡ z.log_slots → near_delivery z d ≡ true → LogFits z l → LogFits z (logged n l d)
  logged_fits n l d e k f = go (eqb n 0)
    where
      new : Log
      new = record {
        records = push n l.records d;
        forced = cond (ltb (length l.records) n) l.forced (wrap (l.forced + 1));
        tallies = set l.tallies d.class (tallied (get_or l.tallies d.class no_tally) d.wire);
      }

      go : (b : Bool) → LogFits z (cond b l new)
      go true = f
      go false = record {
        records = rw (sym e) (length_push n l.records d (rw e f.records));
        tallies = length-set l.tallies d.class _ ∙ f.tallies;
        near = each_push (λ (x : Delivery). near_delivery z x ≡ true) n l.records d f.near k;
      }

  log_fits_lem : (cs : List Copy) (l : Log) → Each (λ (c : Copy). near_copy z c ≡ true) cs → LogFits z l → LogFits z (logged_all z.log_slots l cs)
  log_fits_lem [] l e f = f
  log_fits_lem (c ∷ cs) l e f = log_fits_lem cs (logged z.log_slots l c.delivery) e.1 (logged_fits z.log_slots l c.delivery refl e.0 f)

-- ---- Tills

pub zero_within : (n : ℕ) → within 0 n ≡ true
zero_within n = lt-ltb 0 (2 ^ n) (pow_pos n)

down_near : (z : Sizes) → near_till z down_till ≡ true
down_near z = rw (zero_within z.types, zero_within z.shards)

up_near : (z : Sizes) (shards : ℕ) → within shards z.shards ≡ true → near_till z (up_till shards) ≡ true
up_near z shards h = rw (zero_within z.types, h)

pub length_without : (i : ℕ) (rs : List FaultRule) → length (without i rs) ≤ length rs
unfolding without
length_without i [] = le_refl _
length_without i (r ∷ rs) = go (eqb r.id i) (length_without i rs)
  where
    go : (b : Bool) → length (without i rs) ≤ length rs → length (cond b rs (r ∷ without i rs)) ≤ suc (length rs)
    go true h = omega arith
    go false h = omega arith

-- ---- Blocks and rules

-- two tills below the till count
pub max_below : (a b n : ℕ) → ltb (max a b) n ≡ true → (ltb a n ≡ true) × (ltb b n ≡ true)
max_below a b n h = let k = ltb-true (max a b) n h in (lt-ltb a n (omega (arith, k)), lt-ltb b n (omega (arith, k)))

add_rule : (rs : List FaultRule) (r : FaultRule) → ltb (length rs) rule_slots ≡ true → length (rs ++ (r ∷ [])) ≤ rule_slots
add_rule rs r h = omega (arith, length-append rs (r ∷ []), ltb-true (length rs) rule_slots h)

module _ (o : Opening) where
  with_engine_lem : (s : Live) (e : Engine) → Fits o.sizes s → EngineFits o.sizes e → Fits o.sizes (with_engine s e)
  with_engine_lem s e f h = record { tills = f.tills; masks = f.masks; hosts = f.hosts; seen = f.seen; ordered = f.ordered; engine = h; rings = f.rings; words = f.words; queue = f.queue; log = f.log }

  pub add_block : (e : Engine) (b : BlockWindow) → EngineFits o.sizes e → ltb (length e.blocks) block_slots ≡ true → near_block o.sizes b ≡ true → EngineFits o.sizes (with_blocks e (e.blocks ++ (b ∷ [])))
  add_block e b f h n = record {
    blocks = omega (arith, length-append e.blocks (b ∷ []), ltb-true (length e.blocks) block_slots h);
    rules = f.rules;
    near = each_append (λ (x : BlockWindow). near_block o.sizes x ≡ true) e.blocks (b ∷ []) f.near (n, tt);
  }

  pub scope_below : (x n : ℕ) → n ≤ 16 → (eqb x global || ltb x n) ≡ true → x ≤ 16
  scope_below x n l h = go (eqb x global) (ltb x n) refl refl h
    where
      go : (a b : Bool) → eqb x global ≡ a → ltb x n ≡ b → (a || b) ≡ true → x ≤ 16
      go true b p q k = omega (arith, eqb-true x global p)
      go false true p q k = omega (arith, ltb-true x n q, l)
      go false false p q k = absurd (false≢true k)

  pub near_message : Limited o.sizes → (e : Entry) → ltb e.from o.sizes.tills ≡ true
      → (ltb e.kind o.sizes.types && ltb e.class o.sizes.classes && (eqb e.scope global || ltb e.scope o.sizes.shards)) ≡ true
      → leb (length e.wire) longest_wire ≡ true → NearMessage o.sizes (message_of o e)
  near_message lim e f h w =
      let x = both (ltb e.kind o.sizes.types && ltb e.class o.sizes.classes) (eqb e.scope global || ltb e.scope o.sizes.shards) h in
      let y = both (ltb e.kind o.sizes.types) (ltb e.class o.sizes.classes) x.0 in
      let low = scope_below e.scope o.sizes.shards lim.shards x.1 in
      record { from = f; kind = y.0; class = y.1; ring = omega (arith, low, ltb-true e.kind o.sizes.types y.0); wire = w }

  new_till : (s : Live) (t : ℕ) (x : Till) → Fits o.sizes s → near_till o.sizes x ≡ true → Fits o.sizes (with_tills s (set s.tills t x))
  new_till s t x f h = record {
    tills = length-set s.tills t x ∙ f.tills;
    masks = each_set (λ (y : Till). near_till o.sizes y ≡ true) s.tills t x f.masks h;
    hosts = f.hosts;
    seen = f.seen;
    ordered = f.ordered;
    engine = f.engine;
    rings = f.rings;
    words = f.words;
    queue = f.queue;
    log = f.log;
  }

  -- ---- Every call

  pub step_fits : Limited o.sizes → (room : Room) (s : Live) (c : Call) → first_no (asked_in o room s c) ≡ 0 → Fits o.sizes s → Fits o.sizes (live_step o s c)
  step_fits lim room s (accept e true) h f =
      let y = all_yes (asked_in o room s (accept e true)) (apart_in o room s (accept e true)) h in
      let ts = selected o s e.scope e.from in
      accept_fits o (message_of o e) (near_message lim e y.0 y.1.0 y.1.1.0) ts s (selected_below o s e.scope e.from) (all_each _ ts y.1.1.1.1.1.1.0) (room_fits o room s e y.1.1.1.1.1.1.1.0) f
  step_fits lim room s (accept e false) h f = f
  step_fits lim room s (flush now rows) h f = record {
    tills = f.tills;
    masks = f.masks;
    hosts = length_clearing s (served now rows s) s.seen ∙ f.hosts;
    seen = clearing_small o.sizes.seen_slots s (served now rows s) s.seen f.seen;
    ordered = clearing_ordered s (served now rows s) s.seen f.ordered;
    engine = f.engine;
    rings = f.rings;
    words = f.words;
    queue = record {
      few = le_trans (later_short now rows s) f.queue.few;
      near = later_each now rows s (λ (c : Copy). near_copy o.sizes c ≡ true) f.queue.near;
    };
    log = log_fits_lem o.sizes (lands s (served now rows s)) s.log
        (each_keep (λ (c : Copy). near_copy o.sizes c ≡ true) _ (served now rows s) (served_each now rows s (λ (c : Copy). near_copy o.sizes c ≡ true) f.queue.near)) f.log;
  }
  step_fits lim room s (take_down t) h f = record {
    tills = length-set s.tills t _ ∙ f.tills;
    masks = each_set (λ (x : Till). near_till o.sizes x ≡ true) s.tills t down_till f.masks (down_near o.sizes);
    hosts = length-set s.seen t [] ∙ f.hosts;
    seen = each_set (Small o.sizes.seen_slots) s.seen t [] f.seen (omega arith);
    ordered = each_set Ordered s.seen t [] f.ordered none_ordered;
    engine = f.engine;
    rings = f.rings;
    words = f.words;
    queue = f.queue;
    log = f.log;
  }
  step_fits lim room s (bring_up t shards) h f =
      let y = all_yes (asked o s (bring_up t shards)) (apart o s (bring_up t shards)) h in
      new_till s t (up_till shards) f (up_near o.sizes shards y.1.0)
  step_fits lim room s (handlers t gossip host) h f =
      let y = all_yes (asked o s (handlers t gossip host)) (apart o s (handlers t gossip host)) h in
      let x = both (within gossip o.sizes.types) (within host o.sizes.types) y.1.0 in
      new_till s t (with_handlers (till_at s t) gossip host) f
      (join _ _ (join _ _ x.0 x.1) (both (within (till_at s t).gossip o.sizes.types && within (till_at s t).host o.sizes.types) (within (till_at s t).shards o.sizes.shards)
      (each_at (λ (x : Till). near_till o.sizes x ≡ true) s.tills t down_till f.masks (down_near o.sizes))).1)
  step_fits lim room s (block from to) h f =
      let y = all_yes (asked o s (block from to)) (apart o s (block from to)) h in
      let n = max_below from to o.sizes.tills y.0 in
      with_engine_lem s _ f (add_block s.engine (always from to) f.engine y.1.0 (join _ _ n.0 n.1))
  step_fits lim room s (block_during from to start end) h f =
      let y = all_yes (asked o s (block_during from to start end)) (apart o s (block_during from to start end)) h in
      let n = max_below from to o.sizes.tills y.0 in
      with_engine_lem s _ f (add_block s.engine (during from to start end) f.engine y.1.0 (join _ _ n.0 n.1))
  step_fits lim room s (unblock from to) h f = with_engine_lem s _ f (record {
    blocks = le_trans (length_keep _ s.engine.blocks) f.engine.blocks;
    rules = f.engine.rules;
    near = each_keep (λ (x : BlockWindow). near_block o.sizes x ≡ true) _ s.engine.blocks f.engine.near;
  })
  step_fits lim room s (install card) h f =
      let y = all_yes (asked o s (install card)) (apart o s (install card)) h in
      let free = (both (ltb (length s.engine.rules) rule_slots) (ltb s.engine.installed most_rules) y.0).0 in
      with_engine_lem s _ f (record { blocks = f.engine.blocks; rules = add_rule s.engine.rules _ free; near = f.engine.near })
  step_fits lim room s (remove id) h f = with_engine_lem s _ f (record { blocks = f.engine.blocks; rules = le_trans (length_without id s.engine.rules) f.engine.rules; near = f.engine.near })
  step_fits lim room s (decide x) h f = with_engine_lem s _ f (ruled_fits o.sizes s.engine (o.draws.decide x s.engine.rules s.engine.words) f.engine)
  step_fits lim room s (drain rows) h f = record { tills = f.tills; masks = f.masks; hosts = f.hosts; seen = f.seen; ordered = f.ordered; engine = f.engine; rings = f.rings; words = f.words; queue = f.queue; log = record { records = omega arith; tallies = length-replicate log.classes no_tally; near = tt } }
  step_fits lim room s (reading r) h f = f

  -- ---- The opening

  pub opening_fits : (masks : List ℕ) → all_of (λ m. within m o.sizes.shards) masks ≡ true → Fits o.sizes (opening_live table o.sizes masks)
  opening_fits masks h = record {
    tills = length_up_to o.sizes.tills (λ t. up_till (get_or masks t 0));
    masks = each_up_to (λ (t : Till). near_till o.sizes t ≡ true) o.sizes.tills (λ t. up_till (get_or masks t 0))
        (λ t l. up_near o.sizes (get_or masks t 0) (each_at (λ m. within m o.sizes.shards ≡ true) masks t 0 (all_each (λ m. within m o.sizes.shards) masks h) (zero_within o.sizes.shards)));
    hosts = length-replicate {A = List ℕ} o.sizes.tills [];
    seen = each_replicate (Small o.sizes.seen_slots) o.sizes.tills [] (omega arith);
    ordered = each_replicate Ordered o.sizes.tills [] none_ordered;
    engine = record { blocks = omega arith; rules = omega arith; near = tt };
    rings = record {
      many = length-replicate {A = List Carried} (rings_of o.sizes) [];
      small = each_replicate (λ (l : List Carried). length l ≤ slots) (rings_of o.sizes) [] (omega arith);
      near = each_replicate (NearRing o.sizes) (rings_of o.sizes) [] tt;
    };
    words = length-replicate {A = ℕ} links 0;
    queue = record { few = omega arith; near = tt };
    log = record { records = omega arith; tallies = length-replicate log.classes no_tally; near = tt };
  }
