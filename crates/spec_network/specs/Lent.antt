-- Document 01, question 1: do the lent tables have the opening's sizes, with counts, hosts, types and classes in range? A call is lent the tables that concern it.
-- Tables that no accepted opening left, so that a call on them would have no meaning, are answered "no" as well.
use Rattle.std.specs.Prelude.{ℕ, ◌+◌, ◌*◌, Bool, true, cond, ◌&&◌, List, [], ◌∷◌, eqb, leb, ltb, length}
use Rattle.table_rows.specs.Rows.{all_of}
use Rattle.table_rows.specs.Table.{rows_of}
use Rattle.table_delivery.specs.declared.Delivery.{Delivery}
use Rattle.table_waiting.specs.Waiting as waiting
use Rattle.table_waiting.specs.declared.Copy.{Copy}
use Rattle.table_rings.specs.Rings as rings
use Rattle.table_log.specs.Log as log
use Rattle.fault_blocks.specs.declared.BlockWindow.{BlockWindow}
use Rattle.table_ring.specs.Ring.{sound_at}
use Rattle.link_geography.specs.Geography.{at_least_one, link_in, link_admitted}
use Rattle.fault_rules.specs.Rules.{rule_slots}
use Rattle.fault_blocks.specs.Blocks.{block_slots}
use Rattle.spec_network.specs.Lists.{every, below, within}
use Rattle.spec_network.specs.Opening.{Sizes, links, longest_wire}
use Rattle.spec_network.specs.Live.{Carried, Till, rings_of}
use Rattle.spec_network.specs.Calls.{Call, Reading, is_blocked, transit, fired, is_down, next_time, tally_of, waiting_copies, marks_of, accept, flush, take_down, bring_up, handlers, block, block_during, unblock, install, remove, decide, drain, reading}
use Rattle.spec_network.specs.Tables.{cell, Tables, waiting_rows, setup_width, settings_at, net_width, waiting_at, rules_at, blocks_at, names_width, till_form, rule_form, block_form}
use Rattle.spec_network.specs.Limits.{size_tests, text_tests, range_tests}
use Rattle.spec_network.specs.Real.{key_width, prices_width, region_at}

abbrev pub has_length : List ℕ → ℕ → Bool
has_length xs n = eqb (length xs) n

-- the settings are those that an opening admits
abbrev pub setup_tests : Tables → List Bool
setup_tests T = has_length T.setup setup_width ∷ every (size_tests (settings_at T.setup)) ∷ every (range_tests (settings_at T.setup).config) ∷ []

-- ---- Rows in range

module _ (z : Sizes) where
  abbrev pub near_till : Till → Bool
  near_till t = within t.gossip z.types && within t.host z.types && within t.shards z.shards

  abbrev pub near_delivery : Delivery → Bool
  near_delivery d = ltb d.from z.tills && ltb d.to z.tills && ltb d.kind z.types && ltb d.class z.classes

  abbrev pub near_copy : Copy → Bool
  near_copy c = near_delivery c.delivery

  abbrev pub near_block : BlockWindow → Bool
  near_block b = ltb b.from z.tills && ltb b.to z.tills

  abbrev pub near_carried : Carried → Bool
  near_carried c = ltb c.class z.classes && leb c.wire longest_wire

-- ---- Each table

module _ (z : Sizes) (T : Tables) where
  abbrev pub net_tests : List Bool
  net_tests =
      has_length T.net net_width ∷ leb (cell T.net waiting_at) z.wait_slots ∷ leb (cell T.net rules_at) rule_slots ∷ leb (cell T.net blocks_at) block_slots ∷ []

  abbrev pub names_tests : List Bool
  names_tests = has_length T.names names_width ∷ every (text_tests z T.names) ∷ []

  abbrev pub tills_tests : List Bool
  tills_tests = has_length T.tills (z.tills * till_form.width) ∷ all_of (near_till z) (rows_of till_form T.tills z.tills) ∷ []

  abbrev pub words_tests : List Bool
  words_tests = has_length T.words links ∷ []

  abbrev pub keys_tests : List Bool
  keys_tests = has_length T.keys (z.tills * z.tills * key_width) ∷ []

  abbrev pub seen_tests : List Bool
  seen_tests = has_length T.seen (z.tills + z.tills * z.seen_slots) ∷ all_of (λ t. leb (cell T.seen t) z.seen_slots) (below z.tills) ∷ []

  abbrev pub waiting_tests : List Bool
  waiting_tests = has_length T.waiting (z.wait_slots * waiting.width) ∷ all_of (near_copy z) (waiting_rows T) ∷ []

  abbrev pub rings_tests : List Bool
  rings_tests =
      has_length T.rings (rings_of z * (rings.head_width + rings.span)) ∷ all_of (λ r. sound_at rings.slots (rings.head_of r) T.rings) (below (rings_of z))
      ∷ all_of (all_of (near_carried z)) (rings.all_rings (rings_of z) T.rings) ∷ []

  -- a card may name a till or a type that doesn't exist
  abbrev pub rules_tests : List Bool
  rules_tests = has_length T.rules (rule_slots * rule_form.width) ∷ []

  abbrev pub blocks_tests : List Bool
  blocks_tests = has_length T.blocks (block_slots * block_form.width) ∷ all_of (near_block z) (rows_of block_form T.blocks (cell T.net blocks_at)) ∷ []

  abbrev pub log_tests : List Bool
  log_tests =
      has_length T.log (log.size_of z.log_slots) ∷ log.sound_log z.log_slots T.log
      ∷ all_of (near_delivery z) (log.records_of z.log_slots T.log) ∷ []

-- the prices that a plan can give, and regions below their number
abbrev pub prices_tests : Tables → List Bool
prices_tests T =
    let x = settings_at T.setup in
    let p = x.plan in
    let r = at_least_one p.regions in
    has_length T.prices (prices_width p x.sizes.tills)
    ∷ cond (eqb p.planned 0) true (all_of (λ i. link_admitted (link_in T.prices i)) (below (r * r)) && all_of (λ t. ltb (region_at p T.prices t) r) (below x.sizes.tills)) ∷ []

-- ---- The tables that are lent to a call

abbrev pub reading_tests : Sizes → Tables → Reading → List (List Bool)
reading_tests z T (is_blocked from to now) = net_tests z T ∷ blocks_tests z T ∷ []
reading_tests z T (transit t) = net_tests z T ∷ waiting_tests z T ∷ []
reading_tests z T (fired id) = net_tests z T ∷ rules_tests z T ∷ []
reading_tests z T (is_down t) = tills_tests z T ∷ []
reading_tests z T next_time = net_tests z T ∷ waiting_tests z T ∷ []
reading_tests z T (tally_of class) = log_tests z T ∷ []
reading_tests z T (waiting_copies rows) = net_tests z T ∷ waiting_tests z T ∷ []
reading_tests z T (marks_of t places) = seen_tests z T ∷ []

abbrev pub lent_tests : Sizes → Tables → Call → List (List Bool)
lent_tests z T (accept e opens) =
    net_tests z T ∷ names_tests z T ∷ tills_tests z T ∷ words_tests z T ∷ keys_tests z T ∷ prices_tests T ∷ seen_tests z T ∷ waiting_tests z T ∷ rings_tests z T ∷ rules_tests z T ∷ blocks_tests z T ∷ []
lent_tests z T (flush now rows) = net_tests z T ∷ tills_tests z T ∷ seen_tests z T ∷ waiting_tests z T ∷ blocks_tests z T ∷ log_tests z T ∷ []
lent_tests z T (take_down t) = tills_tests z T ∷ seen_tests z T ∷ []
lent_tests z T (bring_up t shards) = tills_tests z T ∷ []
lent_tests z T (handlers t gossip host) = tills_tests z T ∷ []
lent_tests z T (block from to) = net_tests z T ∷ blocks_tests z T ∷ []
lent_tests z T (block_during from to start end) = net_tests z T ∷ blocks_tests z T ∷ []
lent_tests z T (unblock from to) = net_tests z T ∷ blocks_tests z T ∷ []
lent_tests z T (install card) = net_tests z T ∷ rules_tests z T ∷ []
lent_tests z T (remove id) = net_tests z T ∷ rules_tests z T ∷ []
lent_tests z T (decide x) = net_tests z T ∷ rules_tests z T ∷ []
lent_tests z T (drain rows) = log_tests z T ∷ []
lent_tests z T (reading r) = reading_tests z T r

abbrev pub every_of : List (List Bool) → Bool
every_of [] = true
every_of (bs ∷ more) = every bs && every_of more

-- `setup` is lent to every call
abbrev pub question1 : Sizes → Tables → Call → Bool
question1 z T c = every_of (setup_tests T ∷ lent_tests z T c)
