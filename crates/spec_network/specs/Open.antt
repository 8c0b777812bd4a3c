-- Document 01, 'The book', Opening: its questions 1, 2, 3 and 5, and the tables that it leaves.
use Rattle.std.specs.Prelude.{ℕ, zero, suc, ◌+◌, ◌*◌, Bool, List, [], ◌∷◌, ◌++◌, drop, replicate}
use Rattle.table_rows.specs.Rows.{all_of, flat}
use Rattle.table_waiting.specs.Waiting as waiting
use Rattle.table_rings.specs.Rings as rings
use Rattle.table_log.specs.Log as log
use Rattle.fault_rules.specs.Rules.{rule_slots}
use Rattle.fault_blocks.specs.Blocks.{block_slots}
use Rattle.spec_network.specs.Lists.{every, within}
use Rattle.spec_network.specs.Opening.{Settings, links}
use Rattle.spec_network.specs.Live.{open_tills, rings_of}
use Rattle.spec_network.specs.Questions.{Asked, ask, first_no}
use Rattle.spec_network.specs.Tables.{Tables, setup_of, setup_width, net_width, names_width, till_form, rule_form, block_form}
use Rattle.spec_network.specs.Limits.{size_tests, text_tests, unlike_tests, range_tests}
use Rattle.spec_network.specs.Real.{key_width, keys_of, prices_width, priced_by}
use Rattle.spec_network.specs.Lent.{has_length}

-- ---- Sizes of the lent tables, in their order

pub record Lengths : Type 0 where
  pub setup : ℕ
  pub net : ℕ
  pub names : ℕ
  pub tills : ℕ
  pub words : ℕ
  pub keys : ℕ
  pub prices : ℕ
  pub seen : ℕ
  pub waiting : ℕ
  pub rings : ℕ
  pub rules : ℕ
  pub blocks : ℕ
  pub log : ℕ

abbrev pub lengths_of : Settings → Lengths
lengths_of x =
    let z = x.sizes in
    record {
      setup = setup_width;
      net = net_width;
      names = names_width;
      tills = z.tills * till_form.width;
      words = links;
      keys = z.tills * z.tills * key_width;
      prices = prices_width x.plan z.tills;
      seen = z.tills + z.tills * z.seen_slots;
      waiting = z.wait_slots * waiting.width;
      rings = rings_of z * (rings.head_width + rings.span);
      rules = rule_slots * rule_form.width;
      blocks = block_slots * block_form.width;
      log = log.size_of z.log_slots;
    }

module _ (x : Settings) (masks : List ℕ) (T : Tables) where
  -- 1: do the lent tables have the opening's sizes? The fault stream's key has 8 words, and there is a mask for each till
  abbrev pub lent_tests : List Bool
  lent_tests =
      let n = lengths_of x in
      has_length T.setup n.setup ∷ has_length T.net n.net ∷ has_length T.names n.names ∷ has_length T.tills n.tills ∷ has_length T.words n.words
      ∷ has_length T.keys n.keys ∷ has_length T.prices n.prices ∷ has_length T.seen n.seen ∷ has_length T.waiting n.waiting ∷ has_length T.rings n.rings
      ∷ has_length T.rules n.rules ∷ has_length T.blocks n.blocks ∷ has_length T.log n.log
      ∷ has_length x.fault_key key_width ∷ has_length masks x.sizes.tills ∷ []

  -- 2: are the sizes within limits, and are no two type names and no two shard keys alike?
  abbrev pub limit_tests : List Bool
  limit_tests = every (size_tests x) ∷ every (text_tests x.sizes T.names) ∷ every (unlike_tests x.sizes T.names) ∷ []

  -- 3: are latency, fraction and rates in range? 5: is no bit of a shard mask set beyond the opening's shards?
  abbrev pub asked_opening : List Asked
  asked_opening =
      ask 1 (every lent_tests) ∷ ask 2 (every limit_tests) ∷ ask 3 (every (range_tests x.config)) ∷ ask 5 (all_of (λ m. within m x.sizes.shards) masks) ∷ []

  abbrev pub open_number : ℕ
  open_number = first_no asked_opening

  -- all tills up, settings and shard masks as given, word counts 0, the rest empty; the unused cells stay
  abbrev pub open_tables : Tables
  open_tables =
      let z = x.sizes in
      record {
        setup = setup_of x;
        net = replicate net_width 0;
        names = T.names;
        tills = flat till_form.words (open_tills masks z.tills);
        words = replicate links 0;
        keys = keys_of x;
        prices = priced_by x;
        seen = replicate z.tills 0 ++ drop z.tills T.seen;
        waiting = T.waiting;
        rings = replicate (rings_of z * rings.head_width) 0 ++ drop (rings_of z * rings.head_width) T.rings;
        rules = T.rules;
        blocks = T.blocks;
        log = log.cleared_at T.log;
      }

abbrev pub open_exit : Settings → List ℕ → Tables → ℕ → Tables
open_exit x masks T zero = open_tables x masks T
open_exit x masks T (suc n) = T

-- the opening's contract: its number, and the tables at exit
abbrev pub open_call : Settings → List ℕ → Tables → Tables
open_call x masks T = open_exit x masks T (open_number x masks T)
