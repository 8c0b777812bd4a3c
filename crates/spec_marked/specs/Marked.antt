-- Document 01, 'Edges': the marked lines as one table. A line says what document 01 says; `Holds` asks it of the definition that the code's contract cites.
use Rattle.std.specs.Prelude.{◌≡◌, Bool, true, false, List, [], ◌∷◌, ℕ, ◌*◌, ◌-◌, ◌^◌, negsuc, Float, replicate}
use Rattle.std.specs.Float.{fin}
use Rattle.math_float.specs.Float.{zero64}
use Rattle.math_time.specs.Seconds.{millisecond}
use Rattle.rand_streams.specs.Streams.{word_pair}
use Rattle.link_geography.specs.Geography.{transmission_of}
use Rattle.rand_draw.specs.Fraction as fractions
use Rattle.link_latency.specs.Latency.{latency_at}
use Rattle.fault_rule.specs.declared.TimeWindow.TheVariants.{During}
use Rattle.fault_rule.specs.Rule.{holds}
use Rattle.fault_blocks.specs.Blocks.{blocked, during}
use Rattle.spec_network.specs.Opening.{Settings}
use Rattle.spec_network.specs.Accept.{Counts}
use Rattle.spec_network.specs.Calls.{Call, counted, take_down}
use Rattle.spec_network.specs.Tables.{Tables}
use Rattle.spec_network.specs.Writes.{call_tables, call_reply}
use Rattle.spec_network.specs.Open.{open_number, open_tables}
use Rattle.spec_network.proofs.Runs.{lent, masks, five, hello}

-- ---- What a line can say; `says` is document 01's value

pub data Line : Type 0 where
  -- so many bytes at so many a second: nanoseconds
  transmission : (bytes rate says : ℕ) → Line
  -- the fraction of a draw
  fraction : (draw : ℕ) (says : Float) → Line
  -- whether a window holds a time
  window : (start end now : ℕ) (says : Bool) → Line
  -- a window that holds nothing
  holds_nothing : (start end : ℕ) → Line
  -- a base in nanoseconds, fraction 0.1, at a draw: nanoseconds
  latency : (base draw says : ℕ) → Line
  -- the same at any draw
  latency_at_any : (base says : ℕ) → Line
  -- three tills, rates 0: a global entry from the first, after these calls
  accepted : (before : List Call) (says : Counts) → Line

-- ---- The table

-- the line in document 01's words, then what goes in and what it says
abbrev pub table : List Line
table =
    -- 1,000 bytes at 1,000,000,000 a second: 1,000 ns
    transmission 1000 1000000000 1000
    -- 65,536 at 100,000,000: 655,360 ns
    ∷ transmission 65536 100000000 655360
    -- 1 at 10,000,000,000: 0 ns
    ∷ transmission 1 10000000000 0
    -- fraction of draw 0 is 0
    ∷ fraction 0 zero64
    -- of 2^64 − 1 is (2^53 − 1) / 2^53
    ∷ fraction (2 ^ 64 - 1) (fin false (2 ^ 53 - 1) (negsuc 52))
    -- window 5..8 holds 5 and 7
    ∷ window 5 8 5 true
    ∷ window 5 8 7 true
    -- not 4 or 8
    ∷ window 5 8 4 false
    ∷ window 5 8 8 false
    -- 5..5 holds nothing: of the window test alone, since `block_during` and `install` refuse such a window with 18 (document 02, M-110)
    ∷ holds_nothing 5 5
    -- base 150 ms, fraction 0.1: draw 0 gives 135,000,000 ns
    ∷ latency (150 * millisecond) 0 135000000
    -- draw 2^63 gives 150,000,000
    ∷ latency (150 * millisecond) (2 ^ 63) 150000000
    -- base 0 gives 1,000,000
    ∷ latency_at_any 0 1000000
    -- three tills, third down, rates 0, global from the first: sent 1, partition 1
    ∷ accepted (take_down 2 ∷ []) (five 1 0 1 0 0)
    -- the same again: deduplicated 1, partition 1
    ∷ accepted (take_down 2 ∷ hello ∷ []) (five 0 1 1 0 0)
    ∷ []

-- ---- What each line asks of the definitions

-- the f64 nearest to 0.1
abbrev pub tenth : Float
tenth = fin false 3602879701896397 (negsuc 54)

-- three tills, rates 0, as an opening's settings
abbrev pub three_tills : Settings
three_tills = record {
  sizes = record { tills = 3; types = 2; classes = 3; shards = 1; seen_slots = 2; wait_slots = 12; log_slots = 1 };
  config = record { latency = 150 * millisecond; jitter = 0x3fb999999999999a; loss = 0; duplicate = 0; replay = 0; spike = 0 };
  plan = record { planned = 0; regions = 0; seed = 0 };
  seed = 5;
  fault_key = replicate 8 0;
}

abbrev pub after : Tables → List Call → Tables
after T [] = T
after T (c ∷ cs) = after (call_tables T c) cs

-- a latency's draw is the word pair where its stream stands; no spike rate, nothing on the wire
abbrev pub Holds : Line → Type 0
Holds (transmission bytes rate says) = transmission_of bytes rate ≡ says
Holds (fraction draw says) = fractions.fraction draw ≡ says
Holds (window start end now says) = (holds (During start end) now ≡ says) × (blocked 0 1 now (during 0 1 start end ∷ []) ≡ says)
Holds (holds_nothing start end) = (now : ℕ) → (holds (During start end) now ≡ false) × (blocked 0 1 now (during 0 1 start end ∷ []) ≡ false)
Holds (latency base draw says) = (key : List ℕ) (count : ℕ) → word_pair key count ≡ draw → latency_at key count base tenth zero64 0 ≡ says
Holds (latency_at_any base says) = (key : List ℕ) (count : ℕ) → latency_at key count base tenth zero64 0 ≡ says
Holds (accepted before says) =
    (open_number three_tills masks (lent three_tills) ≡ 0) × (call_reply (after (open_tables three_tills masks (lent three_tills)) before) hello ≡ record { number = 0; answer = counted says })

-- every line of a table holds
abbrev pub Every : List Line → Type 0
Every [] = Unit {0}
Every (l ∷ ls) = Holds l × Every ls

-- the theorem's statement
abbrev pub Marked : Type 0
Marked = Every table
