-- What question 1, answered "yes", says of `setup` and `net`: lengths, sizes within the limits, rates that a draw takes. Assumes nothing.
use mathlib.Core.Path.{◌≡◌}
use mathlib.Core.Bool.{true}
use mathlib.Core.List.{List}
use Prim.Native.Nat.{ℕ, ◌≤◌}
use lib.ListN.{length}
use borrow.Author.Tests.{eqb-true, leb-true}
use Rattle.link_geography.specs.Geography.{most_regions}
use Rattle.link_latency.specs.Admitted.{longest_base, latency_admitted, fraction_admitted, rate_admitted}
use Rattle.fault_rules.specs.Rules.{rule_slots}
use Rattle.fault_blocks.specs.Blocks.{block_slots}
use Rattle.spec_network.specs.Opening.{most_tills, most_types, most_classes, most_shards, most_slots}
use Rattle.spec_network.specs.Tables.{cell, setup_width, sizes_at, settings_at, net_width, waiting_at, rules_at, blocks_at}
use Rattle.spec_network.specs.Limits.{rate_of}
use Rattle.ask_tables.specs.Held.{sizes_held, ranges_held, setup_held, net_held}
use Rattle.ask_tables.proofs.Ladder.{both, only}

pub record PassedSizes (setup : List ℕ) : Type 0 where
  pub tills : (sizes_at setup).tills ≤ most_tills
  pub types : (sizes_at setup).types ≤ most_types
  pub classes : (sizes_at setup).classes ≤ most_classes
  pub shards : (sizes_at setup).shards ≤ most_shards
  pub waits : 1 ≤ (sizes_at setup).wait_slots
  pub wait_slots : (sizes_at setup).wait_slots ≤ most_slots
  pub marks : 1 ≤ (sizes_at setup).seen_slots
  pub seen_slots : (sizes_at setup).seen_slots ≤ most_slots
  pub log_slots : (sizes_at setup).log_slots ≤ most_slots
  pub regions : (settings_at setup).plan.regions ≤ most_regions

pub record PassedRanges (setup : List ℕ) : Type 0 where
  pub latency : (settings_at setup).config.latency ≤ longest_base
  pub jitter : fraction_admitted (rate_of (settings_at setup).config.jitter) ≡ true
  pub loss : rate_admitted (rate_of (settings_at setup).config.loss) ≡ true
  pub duplicate : rate_admitted (rate_of (settings_at setup).config.duplicate) ≡ true
  pub replay : rate_admitted (rate_of (settings_at setup).config.replay) ≡ true
  pub spike : rate_admitted (rate_of (settings_at setup).config.spike) ≡ true

pub record PassedSetup (setup : List ℕ) : Type 0 where
  pub size : length setup ≡ setup_width
  pub sizes : PassedSizes setup
  pub ranges : PassedRanges setup

pub record PassedNet (setup net : List ℕ) : Type 0 where
  pub size : length net ≡ net_width
  pub waiting : cell net waiting_at ≤ (sizes_at setup).wait_slots
  pub rules : cell net rules_at ≤ rule_slots
  pub blocks : cell net blocks_at ≤ block_slots

sizes_say : (setup : List ℕ) → sizes_held setup ≡ true → PassedSizes setup
unfolding sizes_held
sizes_say setup h =
    let q1 = both _ _ h in
    let q2 = both _ _ q1.1 in
    let q3 = both _ _ q2.1 in
    let q4 = both _ _ q3.1 in
    let q5 = both _ _ q4.1 in
    let q6 = both _ _ q5.1 in
    let q7 = both _ _ q6.1 in
    let q8 = both _ _ q7.1 in
    let q9 = both _ _ q8.1 in
    record {
      tills = leb-true _ _ q1.0;
      types = leb-true _ _ q2.0;
      classes = leb-true _ _ q3.0;
      shards = leb-true _ _ q4.0;
      waits = leb-true _ _ q5.0;
      wait_slots = leb-true _ _ q6.0;
      marks = leb-true _ _ q7.0;
      seen_slots = leb-true _ _ q8.0;
      log_slots = leb-true _ _ q9.0;
      regions = leb-true _ _ (only _ q9.1);
    }

ranges_say : (setup : List ℕ) → ranges_held setup ≡ true → PassedRanges setup
unfolding ranges_held latency_admitted
ranges_say setup h =
    let q1 = both _ _ h in
    let q2 = both _ _ q1.1 in
    let q3 = both _ _ q2.1 in
    let q4 = both _ _ q3.1 in
    let q5 = both _ _ q4.1 in
    record { latency = leb-true _ _ q1.0; jitter = q2.0; loss = q3.0; duplicate = q4.0; replay = q5.0; spike = only _ q5.1 }

pub setup_says_lem : (setup : List ℕ) → setup_held setup ≡ true → PassedSetup setup
unfolding setup_held sizes_held ranges_held
setup_says_lem setup h =
    let q1 = both _ _ h in
    let q2 = both _ _ q1.1 in
    record { size = eqb-true _ _ q1.0; sizes = sizes_say setup q2.0; ranges = ranges_say setup (only _ q2.1) }

pub net_says_lem : (setup net : List ℕ) → net_held setup net ≡ true → PassedNet setup net
unfolding net_held
net_says_lem setup net h =
    let q1 = both _ _ h in
    let q2 = both _ _ q1.1 in
    let q3 = both _ _ q2.1 in
    record { size = eqb-true _ _ q1.0; waiting = leb-true _ _ q2.0; rules = leb-true _ _ q3.0; blocks = leb-true _ _ (only _ q3.1) }
