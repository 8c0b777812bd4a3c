-- Runs with the real draws: streams, latency, spikes, ids, the fault stream and regions. What they compute to was taken from the Rust, by bench/oracle:
--   open tills=3 seed=5 fkey=00..00 log=1 lat=150000000 jit=3fb999999999999a loss=3fe0000000000000 dup=3ff0000000000000 rep=3ff0000000000000 spike=3fd0000000000000
--        regions=none types=61,62 shards=07 masks=1,1,0
--   accept 0 1000 1 2 g x05 1 77 · waiting · words · rings
use Rattle.std.specs.Prelude.{◌≡◌, ℕ, true, [], ◌∷◌, ◌++◌, replicate}
use Rattle.table_waiting.specs.declared.Copy.{Copy}
use Rattle.spec_network.specs.Opening.{Settings, global}
use Rattle.spec_network.specs.Live.{Live}
use Rattle.spec_network.specs.Calls.{Call, counts_in, accept, install}
use Rattle.spec_network.specs.Tables.{Tables, live, cell}
use Rattle.spec_network.specs.Writes.{call_tables, call_reply}
use Rattle.spec_network.specs.Open.{open_number, open_tables}
use Rattle.spec_network.proofs.Runs.{lent, masks, five, hello}

abbrev pub rates : Settings
rates = record {
  sizes = record { tills = 3; types = 2; classes = 3; shards = 1; seen_slots = 2; wait_slots = 12; log_slots = 1 };
  config = record { latency = 150000000; jitter = 0x3fb999999999999a; loss = 0x3fe0000000000000; duplicate = 0x3ff0000000000000; replay = 0x3ff0000000000000; spike = 0x3fd0000000000000 };
  plan = record { planned = 0; regions = 0; seed = 0 };
  seed = 5;
  fault_key = replicate 8 0;
}

abbrev pub start : Tables
start = open_tables rates masks (lent rates)

abbrev pub copy : ℕ → ℕ → ℕ → ℕ → Copy
copy time sequence original id = record { delivery = record { from = 0; to = 1; kind = 1; class = 2; sent = 1000; time = time; scope = global; wire = 1 }; sequence = sequence; original = original; id = id; tag = 77 }

pub record Drawn : Type 0 where
  pub opens : open_number rates masks (lent rates) ≡ 0
  pub counts : counts_in (call_reply start hello).answer ≡ five 1 0 0 1 0
  pub waits : (live rates.sizes (call_tables start hello)).queue.waiting ≡ copy 2056089545 2 0 0 ∷ copy 6210416564 1 1 0x747abf483f28d7f6 ∷ []
  pub words : (cell (call_tables start hello).words 1 ≡ 18) × (cell (call_tables start hello).words 2 ≡ 2)

-- Two regions and a rule with probability 0.5 that draws and passes:
--   open tills=2 seed=9 fkey=00..00 log=1 lat=150000000 jit=3fb999999999999a loss=0 dup=0 rep=0 spike=0 regions=2:8 types=61,62 shards=07 masks=1,1
--   install x10000000000000e03f · accept 1 2000 0 1 s0 x0102 1 78 · waiting · words · rules
abbrev pub planned : Settings
planned = record {
  sizes = record { tills = 2; types = 2; classes = 3; shards = 1; seen_slots = 2; wait_slots = 3; log_slots = 1 };
  config = record { latency = 150000000; jitter = 0x3fb999999999999a; loss = 0; duplicate = 0; replay = 0; spike = 0 };
  plan = record { planned = 1; regions = 2; seed = 8 };
  seed = 9;
  fault_key = replicate 8 0;
}

-- the shard's key is one byte, 7
abbrev pub keyed : Tables → Tables
keyed T = record {
  setup = T.setup;
  net = T.net;
  names = 1 ∷ 97 ∷ (replicate 63 0 ++ (1 ∷ 98 ∷ (replicate 973 0 ++ (1 ∷ 7 ∷ replicate 270 0))));
  tills = T.tills;
  words = T.words;
  keys = T.keys;
  prices = T.prices;
  seen = T.seen;
  waiting = T.waiting;
  rings = T.rings;
  rules = T.rules;
  blocks = T.blocks;
  log = T.log;
}

abbrev pub sends : Call
sends = accept (record { from = 1; now = 2000; kind = 0; class = 1; scope = 0; wire = 1 ∷ 2 ∷ []; tag = 78 }) true

abbrev pub ruled : Tables
ruled = call_tables (open_tables planned (1 ∷ 1 ∷ []) (keyed (lent planned))) (install (16 ∷ 0 ∷ 0 ∷ 0 ∷ 0 ∷ 0 ∷ 0 ∷ 224 ∷ 63 ∷ []))

abbrev pub ended : Live
ended = live planned.sizes (call_tables ruled sends)

pub record Planned : Type 0 where
  pub opens : open_number planned (1 ∷ 1 ∷ []) (keyed (lent planned)) ≡ 0
  pub counts : counts_in (call_reply ruled sends).answer ≡ five 1 0 0 0 0
  pub waits : ended.queue.waiting ≡ record { delivery = record { from = 1; to = 0; kind = 0; class = 1; sent = 2000; time = 132846368; scope = 0; wire = 2 }; sequence = 1; original = 1; id = 0xd443a05c92551b9c; tag = 78 } ∷ []
  pub words : (cell ended.words 64 ≡ 2) × (ended.engine.words ≡ 2)
