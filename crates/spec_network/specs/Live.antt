-- Document 01, 'The book': what of it the calls go by.
use Rattle.std.specs.Prelude.{ℕ, ◌*◌, Bool, not, ◌&&◌, ◌||◌, List, [], map, eqb, get_or, replicate}
use Rattle.table_waiting.specs.declared.Copy.{Copy}
use Rattle.table_log.specs.Log.{Log, empty_log}
use Rattle.table_rings.specs.declared.Entry as rings
use Rattle.fault_rule.specs.declared.MessageContext as rule
use Rattle.fault_rules.specs.declared.FaultRule.{FaultRule}
use Rattle.fault_blocks.specs.declared.BlockWindow.{BlockWindow}
use Rattle.fault_blocks.specs.Blocks.{blocked}
use Rattle.table_rows.specs.Lists.{up_to}
use Rattle.spec_network.specs.Lists.{count}
use Rattle.table_rings.specs.Rings.{scopes}
use Rattle.spec_network.specs.Opening.{Sizes, links}
use Rattle.spec_network.specs.Layout.{Layout, plain, table, Marks, Rings, no_marks, stands, ids_in, no_rings, rings_in}

-- ---- Copies

-- an original is a copy with an id
abbrev pub is_original : Copy → Bool
is_original c = not (eqb c.original 0)

-- what a ring keeps of a message; its type and scope are the ring's
abbrev pub Carried : Type 0
Carried = rings.Entry

-- ---- Tills

-- `up` is 0 for a till that is down; two masks of types, one of shards
pub record Till : Type 0 where
  pub up : ℕ
  pub gossip : ℕ
  pub host : ℕ
  pub shards : ℕ

abbrev pub down_till : Till
down_till = record { up = 0; gossip = 0; host = 0; shards = 0 }

-- up, with the shards given and no handlers
abbrev pub up_till : ℕ → Till
up_till shards = record { up = 1; gossip = 0; host = 0; shards = shards }

-- ---- The fault engine

-- what the rules are asked of: `MessageContext`, and now
abbrev pub Context : Type 0
Context = rule.MessageContext

-- `Engine`: the fault stream's word count, and how many rules were ever installed
pub record Engine : Type 0 where
  pub blocks : List BlockWindow
  pub rules : List FaultRule
  pub installed : ℕ
  pub words : ℕ

abbrev pub with_blocks : Engine → List BlockWindow → Engine
with_blocks e x = record { blocks = x; rules = e.rules; installed = e.installed; words = e.words }

abbrev pub with_rules : Engine → List FaultRule → ℕ → ℕ → Engine
with_rules e x installed words = record { blocks = e.blocks; rules = x; installed = installed; words = words }

-- ---- The live part

pub record Queue : Type 0 where
  pub sequence : ℕ  -- the last one given
  pub waiting : List Copy  -- by time, then sequence

pub record LiveBy (k : Layout) : Type 0 where
  pub tills : List Till
  pub seen : List (Marks k)  -- the marks of each till
  pub engine : Engine
  pub rings : Rings k
  pub words : List ℕ  -- the word count of each link
  pub queue : Queue
  pub log : Log

-- as the tables hold it
abbrev pub Live : Type 0
Live = LiveBy table

abbrev pub with_tills : {k : Layout} → LiveBy k → List Till → LiveBy k
with_tills s x = record { tills = x; seen = s.seen; engine = s.engine; rings = s.rings; words = s.words; queue = s.queue; log = s.log }

abbrev pub with_seen : {k : Layout} → LiveBy k → List (Marks k) → LiveBy k
with_seen s x = record { tills = s.tills; seen = x; engine = s.engine; rings = s.rings; words = s.words; queue = s.queue; log = s.log }

abbrev pub with_engine : {k : Layout} → LiveBy k → Engine → LiveBy k
with_engine s x = record { tills = s.tills; seen = s.seen; engine = x; rings = s.rings; words = s.words; queue = s.queue; log = s.log }

abbrev pub with_rings : {k : Layout} → LiveBy k → Rings k → LiveBy k
with_rings s x = record { tills = s.tills; seen = s.seen; engine = s.engine; rings = x; words = s.words; queue = s.queue; log = s.log }

abbrev pub with_words : {k : Layout} → LiveBy k → List ℕ → LiveBy k
with_words s x = record { tills = s.tills; seen = s.seen; engine = s.engine; rings = s.rings; words = x; queue = s.queue; log = s.log }

abbrev pub with_queue : {k : Layout} → LiveBy k → Queue → LiveBy k
with_queue s x = record { tills = s.tills; seen = s.seen; engine = s.engine; rings = s.rings; words = s.words; queue = x; log = s.log }

abbrev pub with_waiting : {k : Layout} → LiveBy k → ℕ → List Copy → LiveBy k
with_waiting s n x = with_queue s (record { sequence = n; waiting = x })

abbrev pub with_log : {k : Layout} → LiveBy k → Log → LiveBy k
with_log s x = record { tills = s.tills; seen = s.seen; engine = s.engine; rings = s.rings; words = s.words; queue = s.queue; log = x }

-- ---- What the book holds of it: marks and rings plain

abbrev pub plainly : Live → LiveBy plain
plainly s = record { tills = s.tills; seen = map (ids_in table) s.seen; engine = s.engine; rings = rings_in s.rings; words = s.words; queue = s.queue; log = s.log }

-- ---- Readings

abbrev pub ids_at : {k : Layout} → LiveBy k → ℕ → Marks k
ids_at {k} s t = get_or s.seen t (no_marks k)

-- does the mark (till, id) stand
abbrev pub marked : {k : Layout} → LiveBy k → ℕ → ℕ → Bool
marked {k} s t i = stands k i (ids_at s t)

abbrev pub till_at : {k : Layout} → LiveBy k → ℕ → Till
till_at s t = get_or s.tills t down_till

abbrev pub is_up : {k : Layout} → LiveBy k → ℕ → Bool
is_up s t = not (eqb (till_at s t).up 0)

-- stopped by a block at that time, or by an end that is down now
abbrev pub stopped : {k : Layout} → LiveBy k → ℕ → ℕ → ℕ → Bool
stopped s from to at = not (is_up s from) || not (is_up s to) || blocked from to at s.engine.blocks

-- in transit to a till is the number of originals waiting for it (document 02, M-101); duplicates and replays are left out
abbrev pub moves_to : ℕ → Copy → Bool
moves_to t c = is_original c && eqb c.delivery.to t

abbrev pub in_transit : {k : Layout} → LiveBy k → ℕ → ℕ
in_transit s t = count (moves_to t) s.queue.waiting

-- a ring for each type and scope
abbrev pub rings_of : Sizes → ℕ
rings_of z = z.types * scopes

-- ---- The opening: all tills up, shard masks as given, the rest empty or at its first number

abbrev pub open_tills : List ℕ → ℕ → List Till
open_tills masks n = up_to n (λ t. up_till (get_or masks t 0))

abbrev pub opening_live : (k : Layout) → Sizes → List ℕ → LiveBy k
opening_live k z masks = record {
  tills = open_tills masks z.tills;
  seen = replicate z.tills (no_marks k);
  engine = record { blocks = []; rules = []; installed = 0; words = 0 };
  rings = no_rings k (rings_of z);
  words = replicate links 0;
  queue = record { sequence = 0; waiting = [] };
  log = empty_log;
}
