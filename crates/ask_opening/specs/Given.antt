-- Document 01, 'Limits' and `NetworkConfig`: the opening's parameters as they are lent, and the settings that they stand for.
use Rattle.std.specs.Prelude.{ℕ, ◌*◌, cond, List, [], eqb, Float, length}
use Rattle.std.specs.Float.{binary64}
use Rattle.std.specs.Float.Ieee.{to_bits}
use Rattle.math_word.specs.Word.{le_word}
use Rattle.table_rows.specs.Lists.{up_to}
use Rattle.spec_network.specs.Opening.{Sizes, Config, Plan, Settings}
use Rattle.spec_network.specs.Real.{key_width}
use Rattle.ask_opening.specs.declared.NetworkConfig.{NetworkConfig}
use Rattle.ask_opening.specs.declared.NetworkSizes.{NetworkSizes}
use Rattle.ask_opening.specs.declared.RegionPlan.{RegionPlan}

-- a rate's bits. A NaN has no pattern of its own: question 3 refuses each of them alike (`Rates.nan_refused`)
abbrev pub bits_of : Float → ℕ
bits_of x = to_bits binary64 x

abbrev pub config_of : NetworkConfig → Config
config_of c = record {
  latency = c.latency;
  jitter = bits_of c.jitter;
  loss = bits_of c.loss;
  duplicate = bits_of c.duplicate;
  replay = bits_of c.replay;
  spike = bits_of c.spike;
}

abbrev pub sizes_of : NetworkSizes → Sizes
sizes_of z = record {
  tills = z.tills;
  types = z.types;
  classes = z.classes;
  shards = z.shards;
  seen_slots = z.seen;
  wait_slots = z.waiting;
  log_slots = z.log;
}

abbrev pub plan_of : RegionPlan → Plan
plan_of p = record { planned = p.planned; regions = p.regions; seed = p.seed }

abbrev pub key_bytes : ℕ
key_bytes = 4 * key_width

-- the fault stream's key: 8 little-endian words; another number of bytes is no key
unfoldable pub key_words : List ℕ → List ℕ
key_words bytes = cond (eqb (length bytes) key_bytes) (up_to key_width (λ i. le_word bytes (4 * i))) []

abbrev pub settings_of : NetworkConfig → NetworkSizes → RegionPlan → (seed : ℕ) → (key : List ℕ) → Settings
settings_of c z p seed key = record { sizes = sizes_of z; config = config_of c; plan = plan_of p; seed = seed; fault_key = key_words key }

-- settings of which only sizes and plan are asked
abbrev pub sized : NetworkSizes → RegionPlan → Settings
sized z p = record {
  sizes = sizes_of z;
  config = record { latency = 0; jitter = 0; loss = 0; duplicate = 0; replay = 0; spike = 0 };
  plan = plan_of p;
  seed = 0;
  fault_key = [];
}
