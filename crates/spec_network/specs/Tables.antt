-- Document 01, 'What changes shape': the lent tables, their cells by name, and what of the book they hold.
use Rattle.std.specs.Prelude.{ℕ, suc, ◌+◌, ◌*◌, List, [], ◌∷◌, get_or, take, drop}
use Rattle.table_rows.specs.Table.{Form, rows_of}
use Rattle.table_waiting.specs.Waiting as waiting
use Rattle.table_waiting.specs.declared.Copy.{Copy}
use Rattle.table_marks.specs.Marks.{ids_of}
use Rattle.table_rings.specs.Rings as rings
use Rattle.table_log.specs.Log as log
use Rattle.fault_rules.specs.Rules as rules
use Rattle.fault_rules.specs.declared.FaultRule.{FaultRule}
use Rattle.fault_blocks.specs.Blocks as blocks
use Rattle.fault_blocks.specs.declared.BlockWindow.{BlockWindow}
use Rattle.table_rows.specs.Lists.{up_to}
use Rattle.spec_network.specs.Opening.{Sizes, Settings, longest_name, longest_key, most_types, most_shards}
use Rattle.spec_network.specs.Live.{Till, Live, rings_of}

abbrev pub cell : List ℕ → ℕ → ℕ
cell xs i = get_or xs i 0

-- ---- `setup`: the opening's numbers and the fault stream's key; written by the opening alone

-- part behind part: seven sizes, the config's six numbers, the plan's three, the seed, the key
abbrev pub config_from : ℕ
config_from = 7

abbrev pub plan_from : ℕ
plan_from = config_from + 6

abbrev pub seed_at : ℕ
seed_at = plan_from + 3

abbrev pub key_at : ℕ
key_at = seed_at + 1

-- a stream's key has 8 words
abbrev pub key_cells : ℕ
key_cells = 8

abbrev pub setup_width : ℕ
setup_width = key_at + key_cells

abbrev pub setup_of : Settings → List ℕ
setup_of x =
    x.sizes.tills ∷ x.sizes.types ∷ x.sizes.classes ∷ x.sizes.shards ∷ x.sizes.seen_slots ∷ x.sizes.wait_slots ∷ x.sizes.log_slots
    ∷ x.config.latency ∷ x.config.jitter ∷ x.config.loss ∷ x.config.duplicate ∷ x.config.replay ∷ x.config.spike
    ∷ x.plan.planned ∷ x.plan.regions ∷ x.plan.seed ∷ x.seed ∷ x.fault_key

abbrev pub sizes_at : List ℕ → Sizes
sizes_at xs = record { tills = cell xs 0; types = cell xs 1; classes = cell xs 2; shards = cell xs 3; seen_slots = cell xs 4; wait_slots = cell xs 5; log_slots = cell xs 6 }

abbrev pub settings_at : List ℕ → Settings
settings_at xs = record {
  sizes = sizes_at xs;
  config = record {
    latency = cell xs config_from;
    jitter = cell xs (config_from + 1);
    loss = cell xs (config_from + 2);
    duplicate = cell xs (config_from + 3);
    replay = cell xs (config_from + 4);
    spike = cell xs (config_from + 5);
  };
  plan = record { planned = cell xs plan_from; regions = cell xs (plan_from + 1); seed = cell xs (plan_from + 2) };
  seed = cell xs seed_at;
  fault_key = drop key_at xs;
}

-- ---- `net`: the counters, and how many rows of the tables without a head are used

abbrev pub net_width : ℕ
net_width = 6

abbrev pub sequence_at : ℕ
sequence_at = 0

abbrev pub waiting_at : ℕ
waiting_at = 1

abbrev pub rules_at : ℕ
rules_at = 2

abbrev pub installed_at : ℕ
installed_at = 3

abbrev pub fault_words_at : ℕ
fault_words_at = 4

abbrev pub blocks_at : ℕ
blocks_at = 5

-- ---- `names`: bytes, lent by the caller and written by no call. For each of 16 types a length and 64 bytes; for each of 16 shards a length and 16 bytes

abbrev pub name_at : ℕ → ℕ
name_at kind = kind * (1 + longest_name)

abbrev pub shard_at : ℕ → ℕ
shard_at shard = most_types * (1 + longest_name) + shard * (1 + longest_key)

abbrev pub names_width : ℕ
names_width = most_types * (1 + longest_name) + most_shards * (1 + longest_key)

-- a length, and so many bytes behind it
abbrev pub text_at : List ℕ → ℕ → List ℕ
text_at names i = take (cell names i) (drop (suc i) names)

-- ---- `tills`

abbrev pub till_form : Form Till
till_form = record {
  width = 4;
  read = λ xs. record { up = cell xs 0; gossip = cell xs 1; host = cell xs 2; shards = cell xs 3 };
  words = λ t. t.up ∷ t.gossip ∷ t.host ∷ t.shards ∷ [];
}

-- ---- `seen`: how many marks each till has, then so many places for each

abbrev pub ids_start : Sizes → ℕ → ℕ
ids_start z t = z.tills + t * z.seen_slots

-- ---- `rules`, `blocks`, `waiting`: rows at the front, their number in `net`

abbrev pub rule_form : Form FaultRule
rule_form = record { width = rules.rule_width; read = rules.first_rule; words = rules.words }

abbrev pub block_form : Form BlockWindow
block_form = record { width = blocks.block_width; read = blocks.first_block; words = blocks.words }

-- ---- The tables

pub record Tables : Type 0 where
  pub setup : List ℕ
  pub net : List ℕ
  pub names : List ℕ
  pub tills : List ℕ
  pub words : List ℕ
  pub keys : List ℕ
  pub prices : List ℕ
  pub seen : List ℕ
  pub waiting : List ℕ
  pub rings : List ℕ
  pub rules : List ℕ
  pub blocks : List ℕ
  pub log : List ℕ

-- the waiting rows, as they stand
abbrev pub waiting_rows : Tables → List Copy
waiting_rows T = rows_of waiting.form T.waiting (cell T.net waiting_at)

-- THE QUEUE that such rows hold: themselves, since they stand by time, then sequence
abbrev pub queue_of : Sizes → List Copy → List Copy
queue_of z rows = rows

-- what of the book the tables hold
abbrev pub live : Sizes → Tables → Live
live z T = record {
  tills = rows_of till_form T.tills z.tills;
  seen = up_to z.tills (λ t. ids_of T.seen (ids_start z t) (cell T.seen t));
  engine = record {
    blocks = rows_of block_form T.blocks (cell T.net blocks_at);
    rules = rows_of rule_form T.rules (cell T.net rules_at);
    installed = cell T.net installed_at;
    words = cell T.net fault_words_at;
  };
  rings = rings.all_rings (rings_of z) T.rings;
  words = T.words;
  queue = record { sequence = cell T.net sequence_at; waiting = queue_of z (waiting_rows T) };
  log = log.log_of z.log_slots T.log;
}
