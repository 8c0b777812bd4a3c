-- Document 01, 'Limits' and 'What changes shape': what an opening settles, the limits, the settings, and the draws that follow from them.
use Rattle.std.specs.Prelude.{ℕ, ◌+◌, ◌*◌, Bool, List}
use Rattle.fault_rule.specs.declared.MessageContext.{MessageContext}
use Rattle.fault_rules.specs.declared.FaultRule.{FaultRule}
use Rattle.fault_decide.specs.Decide.{Decision}

-- ---- Limits

abbrev pub most_tills : ℕ
most_tills = 64

abbrev pub most_types : ℕ
most_types = 16

abbrev pub longest_name : ℕ
longest_name = 64

abbrev pub most_classes : ℕ
most_classes = 8

abbrev pub most_shards : ℕ
most_shards = 16

abbrev pub longest_key : ℕ
longest_key = 16

abbrev pub most_slots : ℕ
most_slots = 4096

abbrev pub longest_wire : ℕ
longest_wire = 65536

-- 2^60
abbrev pub latest_now : ℕ
latest_now = 1152921504606846976

-- 2^40
abbrev pub most_words : ℕ
most_words = 1099511627776

abbrev pub last_number : ℕ
last_number = 4294967295

-- one word count for each ordered pair of 64 tills
abbrev pub links : ℕ
links = 4096

abbrev pub link : ℕ → ℕ → ℕ
link from to = from * 64 + to

-- A scope is a shard, or this number for a global entry.
abbrev pub global : ℕ
global = 16

-- ---- Settings

pub record Sizes : Type 0 where
  pub tills : ℕ
  pub types : ℕ
  pub classes : ℕ
  pub shards : ℕ
  pub seen_slots : ℕ
  pub wait_slots : ℕ
  pub log_slots : ℕ

-- `NetworkConfig`: nanoseconds, and five rates as the bits of their f64
pub record Config : Type 0 where
  pub latency : ℕ
  pub jitter : ℕ
  pub loss : ℕ
  pub duplicate : ℕ
  pub replay : ℕ
  pub spike : ℕ

-- the region plan: `planned` is 0 where there is none
pub record Plan : Type 0 where
  pub planned : ℕ
  pub regions : ℕ
  pub seed : ℕ

-- the opening's numbers; the fault stream's key as 8 words. Names, shard keys and shard masks are lent beside them.
pub record Settings : Type 0 where
  pub sizes : Sizes
  pub config : Config
  pub plan : Plan
  pub seed : ℕ
  pub fault_key : List ℕ

-- ---- Draws

-- a drawn value, and the stream's word count after the draw
pub record Draw (A : Type 0) : Type 0 where
  pub value : A
  pub words : ℕ

-- What the streams and the digest give to the calls, each at a word count of its stream. `Real.draws_of` is the one that an opening has.
pub record Draws : Type 0 where
  -- on the link from, to: the draws for loss, duplicate and replay
  pub loss : (from to words : ℕ) → Draw Bool
  pub duplicate : (from to words : ℕ) → Draw Bool
  pub replay : (from to words : ℕ) → Draw Bool
  -- is either echo rate above 0
  pub echoing : Bool
  -- the latency of so many bytes; an index below n
  pub latency : (from to bytes words : ℕ) → Draw ℕ
  pub index : (from to n words : ℕ) → Draw ℕ
  -- what the rules say of a message
  pub decide : MessageContext → List FaultRule → (words : ℕ) → Decision
  pub id : (kind scope : ℕ) → (wire : List ℕ) → ℕ

-- what the calls go by
pub record Opening : Type 0 where
  pub sizes : Sizes
  pub draws : Draws
