-- What question 1, answered "yes", says of waiting, log, rings, names and prices. Assumes nothing.
use mathlib.Core.Path.{◌≡◌, sym, ap, ◌∙◌}
use mathlib.Core.Bool.{Bool, true, false, cond, ◌&&◌}
use mathlib.Core.List.{List}
use Prim.Native.Nat.{ℕ, ◌+◌, ◌*◌, ◌≤◌, ◌<◌}
use native.Mathlib.Omega.{arith}
use lib.Dec.{eqb, leb, ltb}
use lib.ListN.{length, get_or}
use borrow.Author.Tests.{eqb-true, leb-true, ltb-true, ne_eqb}
use Rattle.table_rows.specs.Rows.{all_of}
use Rattle.table_rows.specs.Table.{rows_of}
use Rattle.table_rows.proofs.Scans.{pass_at}
use Rattle.table_delivery.specs.declared.Delivery.{Delivery}
use Rattle.table_waiting.specs.Waiting as waiting
use Rattle.table_waiting.specs.declared.Copy.{Copy}
use Rattle.table_ring.specs.Ring.{count_at}
use Rattle.table_rings.specs.Rings as rings
use Rattle.table_rings.specs.declared.Entry.{Entry}
use Rattle.table_log.specs.Log as log
use Rattle.link_geography.specs.Geography.{at_least_one, link_in, link_admitted}
use Rattle.table_scan.specs.Scan.{near, near_entry}
use Rattle.table_scan.proofs.Laws as scan
use Rattle.spec_network.specs.Lists.{below}
use Rattle.spec_network.specs.Opening.{longest_name, longest_key, longest_wire}
use Rattle.spec_network.specs.Live.{rings_of}
use Rattle.spec_network.specs.Tables.{cell, sizes_at, settings_at, waiting_at, names_width, name_at, shard_at}
use Rattle.spec_network.specs.Real.{pair_cells, region_at}
use Rattle.ask_tables.specs.Held.{waiting_held, log_held, rings_held, names_held, prices_held}
use Rattle.ask_tables.proofs.Ladder.{both, only}
use Rattle.ask_tables.proofs.Rows.{below_at}
use Rattle.ask_rows.specs.HeldRows.{limits_of}
use Rattle.ask_rows.proofs.Tests.{copies_near_lem, log_near_lem, rings_near_lem}

-- ---- Waiting

pub record PassedWaiting (setup net waits : List ℕ) : Type 0 where
  pub size : length waits ≡ (sizes_at setup).wait_slots * waiting.width
  pub near : (i : ℕ) (d : Copy) → i < cell net waiting_at → scan.Near (limits_of (sizes_at setup)) (get_or (rows_of waiting.form waits (cell net waiting_at)) i d).delivery

pub waiting_says_lem : (setup net waits : List ℕ) → waiting_held setup net waits ≡ true → PassedWaiting setup net waits
unfolding waiting_held
waiting_says_lem setup net waits h =
    let a = both _ _ h in
    let z = sizes_at setup in
    let n = cell net waiting_at in
    record { size = eqb-true _ _ a.0; near = λ i d l. scan.copies_say (limits_of z) waits n i d (copies_near_lem z waits n ∙ only _ a.1) l }

-- ---- Log

pub record PassedLog (setup ws : List ℕ) : Type 0 where
  pub size : length ws ≡ log.size_of (sizes_at setup).log_slots
  pub sound : log.SoundLog (sizes_at setup).log_slots ws
  pub near : (i : ℕ) (d : Delivery) → i < count_at 0 ws → scan.Near (limits_of (sizes_at setup)) (get_or (log.records_of (sizes_at setup).log_slots ws) i d)

pub log_says : (setup ws : List ℕ) → log_held setup ws ≡ true → PassedLog setup ws
unfolding log_held
log_says setup ws h =
    let a = both _ _ h in
    let z = sizes_at setup in
    let m = z.log_slots in
    let l = limits_of z in
    let s = scan.log_says l m ws (log_near_lem z m ws ∙ a.1) in
    let rs = log.records_of m ws in
    record {
      size = eqb-true _ _ a.0;
      sound = s.0;
      near = λ i d q. scan.near_says l (get_or rs i d) (pass_at (near l) d rs i (let k = scan.records_long m ws in omega arith) s.1);
    }

-- ---- Rings

pub record NearEntry (classes : ℕ) (e : Entry) : Type 0 where
  pub class : e.class < classes
  pub wire : e.wire ≤ longest_wire

pub record PassedRings (setup ws : List ℕ) : Type 0 where
  pub size : length ws ≡ rings_of (sizes_at setup) * (rings.head_width + rings.span)
  pub sound : (r : ℕ) → r < rings_of (sizes_at setup) → rings.SoundRing ws r
  pub near : (r k : ℕ) (d : Entry) → r < rings_of (sizes_at setup) → k < rings.count_of ws r → NearEntry (sizes_at setup).classes (get_or (rings.entries (rings_of (sizes_at setup)) ws r) k d)

pub rings_say_lem : (setup ws : List ℕ) → rings_held setup ws ≡ true → PassedRings setup ws
unfolding rings_held
rings_say_lem setup ws h =
    let a = both _ _ h in
    let z = sizes_at setup in
    let n = rings_of z in
    let l = limits_of z in
    let say : (r : ℕ) → r < n → rings.SoundRing ws r × (all_of (near_entry l) (rings.entries n ws r) ≡ true) = λ r q. scan.rings_say_lem l n ws r (rings_near_lem z n ws ∙ a.1) q in
    record {
      size = eqb-true _ _ a.0;
      sound = λ r q. (say r q).0;
      near = λ r k d q q'.
          let es = rings.entries n ws r in
          let e = scan.entry_says l (get_or es k d) (pass_at (near_entry l) d es k (let c = scan.entries_long n ws r in omega arith) (say r q).1) in
          record { class = e.0; wire = e.1 };
    }

-- ---- Names

pub record PassedNames (setup texts : List ℕ) : Type 0 where
  pub size : length texts ≡ names_width
  pub names : (k : ℕ) → k < (sizes_at setup).types → cell texts (name_at k) ≤ longest_name
  pub keys : (k : ℕ) → k < (sizes_at setup).shards → cell texts (shard_at k) ≤ longest_key

pub names_say_lem : (setup names : List ℕ) → names_held setup names ≡ true → PassedNames setup names
unfolding names_held
names_say_lem setup names h =
    let a = both _ _ h in
    let b = both _ _ (only _ a.1) in
    let z = sizes_at setup in
    record {
      size = eqb-true _ _ a.0;
      names = λ k l. leb-true (cell names (name_at k)) longest_name (below_at (λ (i : ℕ). leb (cell names (name_at i)) longest_name) z.types k b.0 l);
      keys = λ k l. leb-true (cell names (shard_at k)) longest_key (below_at (λ (i : ℕ). leb (cell names (shard_at i)) longest_key) z.shards k (only _ b.1) l);
    }

-- ---- Prices

pub record PassedPlan (setup prices : List ℕ) : Type 0 where
  pub size : length prices ≡ pair_cells (settings_at setup).plan + (sizes_at setup).tills
  pub links : (i : ℕ) → i < at_least_one (settings_at setup).plan.regions * at_least_one (settings_at setup).plan.regions → link_admitted (link_in prices i) ≡ true
  pub regions : (t : ℕ) → t < (sizes_at setup).tills → region_at (settings_at setup).plan prices t < at_least_one (settings_at setup).plan.regions

-- with a plan
pub prices_say_lem : (setup prices : List ℕ) → prices_held setup prices ≡ true → ((settings_at setup).plan.planned ≡ 0 → ⊥) → PassedPlan setup prices
unfolding prices_held
prices_say_lem setup prices h f =
    let x = settings_at setup in
    let p = x.plan in
    let r = at_least_one p.regions in
    let n = x.sizes.tills in
    let by : Bool → Bool
    = λ b. eqb (length prices) (cond b 0 (pair_cells p + n)) &&
    (cond b true (all_of (λ i. link_admitted (link_in prices i)) (below (r * r)) && all_of (λ t. ltb (region_at p prices t) r) (below n)) && true) in
    let g : by false ≡ true = ap by (sym (ne_eqb p.planned 0 f)) ∙ h in
    let a = both _ _ g in
    let b = both _ _ (only _ a.1) in
    record {
      size = eqb-true _ _ a.0;
      links = λ i l. below_at (λ (k : ℕ). link_admitted (link_in prices k)) (r * r) i b.0 l;
      regions = λ t l. ltb-true (region_at p prices t) r (below_at (λ (k : ℕ). ltb (region_at p prices k) r) n t b.1 l);
    }
