-- Document 01, question 1, table by table: the tests of `Lent`, of the lists that they read and nothing else.
use Rattle.std.specs.Prelude.{Bool, ◌&&◌, List, [], ℕ, ltb}
use Rattle.fault_blocks.specs.declared.BlockWindow.{BlockWindow}
use Rattle.spec_network.specs.Live.{Till}
use Rattle.spec_network.specs.Lists.{every}
use Rattle.spec_network.specs.Tables.{Tables, sizes_at, settings_at}
use Rattle.spec_network.specs.Limits.{size_tests, range_tests}
use Rattle.spec_network.specs.Lent.{setup_tests, net_tests, names_tests, tills_tests, words_tests, keys_tests, prices_tests, seen_tests, waiting_tests, rings_tests, rules_tests, blocks_tests, log_tests}
use Rattle.spec_network.specs.Lending.{no_tables, set_setup, set_net, set_names, set_tills, set_words, set_keys, set_prices, set_seen, set_waiting, set_rings, set_rules, set_blocks, set_log}

-- `setup` alone
abbrev pub alone : (setup : List ℕ) → Tables
alone setup = set_setup no_tables setup

-- question 2's limits, of the numbers that they speak of
unfoldable pub sizes_within : (tills types classes shards seen waiting log regions : ℕ) → Bool
sizes_within tills types classes shards seen waiting log regions =
    every
    (size_tests
    (record {
      sizes = record { tills = tills; types = types; classes = classes; shards = shards; seen_slots = seen; wait_slots = waiting; log_slots = log };
      config = record { latency = 0; jitter = 0; loss = 0; duplicate = 0; replay = 0; spike = 0 };
      plan = record { planned = 0; regions = regions; seed = 0 };
      seed = 0;
      fault_key = [];
    }))

unfoldable pub sizes_held : (setup : List ℕ) → Bool
sizes_held setup = every (size_tests (settings_at setup))

unfoldable pub ranges_held : (setup : List ℕ) → Bool
ranges_held setup = every (range_tests (settings_at setup).config)

unfoldable pub setup_held : (setup : List ℕ) → Bool
setup_held setup = every (setup_tests (alone setup))

unfoldable pub net_held : (setup net : List ℕ) → Bool
net_held setup net = every (net_tests (sizes_at setup) (set_net (alone setup) net))

unfoldable pub names_held : (setup names : List ℕ) → Bool
names_held setup names = every (names_tests (sizes_at setup) (set_names (alone setup) names))

unfoldable pub tills_held : (setup tills : List ℕ) → Bool
tills_held setup tills = every (tills_tests (sizes_at setup) (set_tills (alone setup) tills))

unfoldable pub words_held : (words : List ℕ) → Bool
words_held words = every (words_tests (sizes_at []) (set_words (alone []) words))

unfoldable pub keys_held : (setup keys : List ℕ) → Bool
keys_held setup keys = every (keys_tests (sizes_at setup) (set_keys (alone setup) keys))

unfoldable pub prices_held : (setup prices : List ℕ) → Bool
prices_held setup prices = every (prices_tests (set_prices (alone setup) prices))

unfoldable pub seen_held : (setup seen : List ℕ) → Bool
seen_held setup seen = every (seen_tests (sizes_at setup) (set_seen (alone setup) seen))

unfoldable pub waiting_held : (setup net waiting : List ℕ) → Bool
waiting_held setup net waiting = every (waiting_tests (sizes_at setup) (set_waiting (set_net (alone setup) net) waiting))

unfoldable pub rings_held : (setup rings : List ℕ) → Bool
rings_held setup rings = every (rings_tests (sizes_at setup) (set_rings (alone setup) rings))

unfoldable pub rules_held : (rules : List ℕ) → Bool
rules_held rules = every (rules_tests (sizes_at []) (set_rules (alone []) rules))

unfoldable pub blocks_held : (setup net blocks : List ℕ) → Bool
blocks_held setup net blocks = every (blocks_tests (sizes_at setup) (set_blocks (set_net (alone setup) net) blocks))

unfoldable pub log_held : (setup log : List ℕ) → Bool
log_held setup log = every (log_tests (sizes_at setup) (set_log (alone setup) log))

-- a row's masks below two powers of 2; a window between tills that exist
unfoldable pub masks_below : (types shards : ℕ) → Till → Bool
masks_below types shards t = ltb t.gossip types && ltb t.host types && ltb t.shards shards

unfoldable pub ends_below : (tills : ℕ) → BlockWindow → Bool
ends_below tills b = ltb b.from tills && ltb b.to tills
