-- Question 1 as facts: the tables that calls write are in form, and each table anew leaves the others so.
use mathlib.Core.Path.{◌≡◌}
use mathlib.Core.Bool.{true}
use Prim.Native.Nat.{ℕ, ◌+◌, ◌*◌, ◌≤◌, ◌<◌}
use mathlib.Core.List.{List}
use lib.ListN.{length}
use Rattle.table_waiting.specs.Waiting as waiting
use Rattle.table_rings.specs.Rings.{head_width, span, SoundRing}
use Rattle.table_log.specs.Log.{size_of, SoundLog}
use Rattle.fault_rules.specs.Rules.{rule_slots}
use Rattle.fault_blocks.specs.Blocks.{block_slots}
use Rattle.spec_network.specs.Lists.{every}
use Rattle.spec_network.specs.Opening.{Sizes, Opening, links}
use Rattle.spec_network.specs.Live.{Live, rings_of}
use Rattle.spec_network.specs.Tables.{cell, Tables, live, net_width, waiting_at, rules_at, blocks_at, till_form, rule_form, block_form}
use Rattle.spec_network.specs.Real.{opening_at}
use Rattle.spec_network.specs.Lent.{setup_tests, names_tests, keys_tests, prices_tests}
use Rattle.spec_network.specs.Lending.{no_tables, set_setup, set_net, set_names, set_tills, set_words, set_keys, set_prices, set_seen, set_waiting, set_rings, set_rules, set_blocks, set_log}

-- the tables that the opening alone writes
pub record Four : Type 0 where
  pub setup : List ℕ
  pub names : List ℕ
  pub keys : List ℕ
  pub prices : List ℕ

abbrev pub four_of : Tables → Four
four_of T = record { setup = T.setup; names = T.names; keys = T.keys; prices = T.prices }

abbrev pub bare : Four → Tables
bare q = set_prices (set_keys (set_names (set_setup no_tables q.setup) q.names) q.keys) q.prices

-- they are in range, and the opening is the book's
pub record Fixed (o : Opening) (q : Four) : Type 0 where
  pub setup : every (setup_tests (bare q)) ≡ true
  pub names : every (names_tests o.sizes (bare q)) ≡ true
  pub keys : every (keys_tests o.sizes (bare q)) ≡ true
  pub prices : every (prices_tests (bare q)) ≡ true
  pub opening : opening_at (bare q) ≡ o

pub record NetFormed (z : Sizes) (net : List ℕ) : Type 0 where
  pub size : length net ≡ net_width
  pub waiting : cell net waiting_at ≤ z.wait_slots
  pub rules : cell net rules_at ≤ rule_slots
  pub blocks : cell net blocks_at ≤ block_slots

pub record SeenFormed (z : Sizes) (seen : List ℕ) : Type 0 where
  pub size : length seen ≡ z.tills + z.tills * z.seen_slots
  pub counts : (t : ℕ) → t < z.tills → cell seen t ≤ z.seen_slots

pub record RingsFormed (z : Sizes) (rings : List ℕ) : Type 0 where
  pub size : length rings ≡ rings_of z * (head_width + span)
  pub heads : (r : ℕ) → r < rings_of z → SoundRing rings r

pub record LogFormed (z : Sizes) (log : List ℕ) : Type 0 where
  pub size : length log ≡ size_of z.log_slots
  pub head : SoundLog z.log_slots log

pub record Formed (z : Sizes) (T : Tables) : Type 0 where
  pub net : NetFormed z T.net
  pub tills : length T.tills ≡ z.tills * till_form.width
  pub words : length T.words ≡ links
  pub seen : SeenFormed z T.seen
  pub waiting : length T.waiting ≡ z.wait_slots * waiting.width
  pub rings : RingsFormed z T.rings
  pub rules : length T.rules ≡ rule_slots * rule_form.width
  pub blocks : length T.blocks ≡ block_slots * block_form.width
  pub log : LogFormed z T.log

-- a write: the tables stay in form, and hold what the book holds after the change
pub record Wrote (z : Sizes) (T : Tables) (s : Live) : Type 0 where
  pub formed : Formed z T
  pub holds : live z T ≡ s

module _ (z : Sizes) (T : Tables) (f : Formed z T) where
  pub formed_net : (x : List ℕ) → NetFormed z x → Formed z (set_net T x)
  formed_net x h = record { net = h; tills = f.tills; words = f.words; seen = f.seen; waiting = f.waiting; rings = f.rings; rules = f.rules; blocks = f.blocks; log = f.log }

  pub formed_tills : (x : List ℕ) → length x ≡ z.tills * till_form.width → Formed z (set_tills T x)
  formed_tills x h = record { net = f.net; tills = h; words = f.words; seen = f.seen; waiting = f.waiting; rings = f.rings; rules = f.rules; blocks = f.blocks; log = f.log }

  pub formed_words : (x : List ℕ) → length x ≡ links → Formed z (set_words T x)
  formed_words x h = record { net = f.net; tills = f.tills; words = h; seen = f.seen; waiting = f.waiting; rings = f.rings; rules = f.rules; blocks = f.blocks; log = f.log }

  pub formed_seen : (x : List ℕ) → SeenFormed z x → Formed z (set_seen T x)
  formed_seen x h = record { net = f.net; tills = f.tills; words = f.words; seen = h; waiting = f.waiting; rings = f.rings; rules = f.rules; blocks = f.blocks; log = f.log }

  pub formed_waiting : (x : List ℕ) → length x ≡ z.wait_slots * waiting.width → Formed z (set_waiting T x)
  formed_waiting x h = record { net = f.net; tills = f.tills; words = f.words; seen = f.seen; waiting = h; rings = f.rings; rules = f.rules; blocks = f.blocks; log = f.log }

  pub formed_rings : (x : List ℕ) → RingsFormed z x → Formed z (set_rings T x)
  formed_rings x h = record { net = f.net; tills = f.tills; words = f.words; seen = f.seen; waiting = f.waiting; rings = h; rules = f.rules; blocks = f.blocks; log = f.log }

  pub formed_rules : (x : List ℕ) → length x ≡ rule_slots * rule_form.width → Formed z (set_rules T x)
  formed_rules x h = record { net = f.net; tills = f.tills; words = f.words; seen = f.seen; waiting = f.waiting; rings = f.rings; rules = h; blocks = f.blocks; log = f.log }

  pub formed_blocks : (x : List ℕ) → length x ≡ block_slots * block_form.width → Formed z (set_blocks T x)
  formed_blocks x h = record { net = f.net; tills = f.tills; words = f.words; seen = f.seen; waiting = f.waiting; rings = f.rings; rules = f.rules; blocks = h; log = f.log }

  pub formed_log : (x : List ℕ) → LogFormed z x → Formed z (set_log T x)
  formed_log x h = record { net = f.net; tills = f.tills; words = f.words; seen = f.seen; waiting = f.waiting; rings = f.rings; rules = f.rules; blocks = f.blocks; log = h }
