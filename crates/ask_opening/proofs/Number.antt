-- What an opening that passes its questions says of sizes, tables and rates; and the number by lengths is the network's. Assumes nothing.
use mathlib.Core.Path.{◌≡◌, refl}
use mathlib.Core.Bool.{true}
use mathlib.Core.List.{List}
use Prim.Native.Nat.{ℕ, ◌≤◌}
use lib.ListN.{length}
use borrow.Author.Tests.{eqb-true, leb-true}
use Rattle.link_geography.specs.Geography.{most_regions}
use Rattle.spec_network.specs.Lists.{every}
use Rattle.spec_network.specs.Opening.{Settings, most_tills, most_types, most_classes, most_shards, most_slots}
use Rattle.spec_network.specs.Tables.{Tables}
use Rattle.spec_network.specs.Limits.{size_tests, range_tests}
use Rattle.spec_network.specs.Real.{key_width}
use Rattle.spec_network.specs.Open.{Lengths, lengths_of, open_number}
use Rattle.ask_opening.specs.declared.TableLengths.{TableLengths}
use Rattle.ask_opening.specs.Asked.{table_tests, given_tests, limit_tests, number_of}
use Rattle.ask_opening.proofs.Ladder.{all_pass, passed_parts}
use Rattle.ask_tables.proofs.Ladder.{under}

-- sizes within limits
pub record Limited (x : Settings) : Type 0 where
  pub tills : x.sizes.tills ≤ most_tills
  pub types : x.sizes.types ≤ most_types
  pub classes : x.sizes.classes ≤ most_classes
  pub shards : x.sizes.shards ≤ most_shards
  pub waiting : x.sizes.wait_slots ≤ most_slots
  pub seen : x.sizes.seen_slots ≤ most_slots
  pub log : x.sizes.log_slots ≤ most_slots
  pub regions : x.plan.regions ≤ most_regions

pub limited : (x : Settings) → every (size_tests x) ≡ true → Limited x
limited x h =
    let e = all_pass (size_tests x) h in
    record {
      tills = leb-true _ _ e.0;
      types = leb-true _ _ e.1.0;
      classes = leb-true _ _ e.1.1.0;
      shards = leb-true _ _ e.1.1.1.0;
      waiting = leb-true _ _ e.1.1.1.1.1.0;
      seen = leb-true _ _ e.1.1.1.1.1.1.1.0;
      log = leb-true _ _ e.1.1.1.1.1.1.1.1.0;
      regions = leb-true _ _ e.1.1.1.1.1.1.1.1.1.0;
    }

-- tables of the opening's lengths
pub record Held (m : Lengths) (n : TableLengths) : Type 0 where
  pub setup : n.setup ≡ m.setup
  pub net : n.net ≡ m.net
  pub names : n.names ≡ m.names
  pub tills : n.tills ≡ m.tills
  pub words : n.words ≡ m.words
  pub keys : n.keys ≡ m.keys
  pub prices : n.prices ≡ m.prices
  pub seen : n.seen ≡ m.seen
  pub waiting : n.waiting ≡ m.waiting
  pub rings : n.rings ≡ m.rings
  pub rules : n.rules ≡ m.rules
  pub blocks : n.blocks ≡ m.blocks
  pub log : n.log ≡ m.log

pub held : (m : Lengths) (n : TableLengths) → every (table_tests m n) ≡ true → Held m n
held m n h =
    let e = all_pass (table_tests m n) h in
    record {
      setup = eqb-true _ _ e.0;
      net = eqb-true _ _ e.1.0;
      names = eqb-true _ _ e.1.1.0;
      tills = eqb-true _ _ e.1.1.1.0;
      words = eqb-true _ _ e.1.1.1.1.0;
      keys = eqb-true _ _ e.1.1.1.1.1.0;
      prices = eqb-true _ _ e.1.1.1.1.1.1.0;
      seen = eqb-true _ _ e.1.1.1.1.1.1.1.0;
      waiting = eqb-true _ _ e.1.1.1.1.1.1.1.1.0;
      rings = eqb-true _ _ e.1.1.1.1.1.1.1.1.1.0;
      rules = eqb-true _ _ e.1.1.1.1.1.1.1.1.1.1.0;
      blocks = eqb-true _ _ e.1.1.1.1.1.1.1.1.1.1.1.0;
      log = eqb-true _ _ e.1.1.1.1.1.1.1.1.1.1.1.1.0;
    }

-- an opening that no question refuses
pub record Passed (x : Settings) (n : TableLengths) (masks : List ℕ) : Type 0 where
  pub tables : Held (lengths_of x) n
  pub key : length x.fault_key ≡ key_width
  pub given : length masks ≡ x.sizes.tills
  pub sizes : Limited x
  pub rates : every (range_tests x.config) ≡ true

pub passed : (x : Settings) (n : TableLengths) (masks names : List ℕ) → number_of x n masks names ≡ 0 → Passed x n masks
unfolding number_of
passed x n masks names h =
    let a = under _ _ 0 h in
    let b = under _ _ 1 a.1 in
    let c = under _ _ 2 b.1 in
    let l = passed_parts (table_tests (lengths_of x) n) (given_tests x.sizes.tills x.fault_key masks) a.0 in
    let g = all_pass (given_tests x.sizes.tills x.fault_key masks) l.1 in
    let z = all_pass (limit_tests x names) b.0 in
    record { tables = held (lengths_of x) n l.0; key = eqb-true _ _ g.0; given = eqb-true _ _ g.1.0; sizes = limited x z.0; rates = c.0 }

-- the lengths that tables have
abbrev pub lengths_in : Tables → TableLengths
lengths_in T = record {
  setup = length T.setup;
  net = length T.net;
  names = length T.names;
  tills = length T.tills;
  words = length T.words;
  keys = length T.keys;
  prices = length T.prices;
  seen = length T.seen;
  waiting = length T.waiting;
  rings = length T.rings;
  rules = length T.rules;
  blocks = length T.blocks;
  log = length T.log;
}

pub number_is : (x : Settings) (masks : List ℕ) (T : Tables) → number_of x (lengths_in T) masks T.names ≡ open_number x masks T
unfolding number_of
number_is x masks T = refl
