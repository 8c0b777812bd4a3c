-- Document 01, 'The book' (each call gets the lent tables): tables of which some are lent or written, each list in its field, the others whatever they are.
-- The one file that lists every table; contracts lend by the names below, in this order.
use Rattle.std.specs.Prelude.{List, [], ℕ}
use Rattle.spec_network.specs.Tables.{Tables}

-- ---- All of them

abbrev pub tables_of : (setup net names tills words keys prices seen waiting rings rules blocks log : List ℕ) → Tables
tables_of setup net names tills words keys prices seen waiting rings rules blocks log = record {
  setup = setup;
  net = net;
  names = names;
  tills = tills;
  words = words;
  keys = keys;
  prices = prices;
  seen = seen;
  waiting = waiting;
  rings = rings;
  rules = rules;
  blocks = blocks;
  log = log;
}

abbrev pub no_tables : Tables
no_tables = tables_of [] [] [] [] [] [] [] [] [] [] [] [] []

-- ---- Some of them anew

abbrev pub set_setup : Tables → List ℕ → Tables
set_setup T x = tables_of x T.net T.names T.tills T.words T.keys T.prices T.seen T.waiting T.rings T.rules T.blocks T.log

abbrev pub set_net : Tables → List ℕ → Tables
set_net T x = tables_of T.setup x T.names T.tills T.words T.keys T.prices T.seen T.waiting T.rings T.rules T.blocks T.log

abbrev pub set_names : Tables → List ℕ → Tables
set_names T x = tables_of T.setup T.net x T.tills T.words T.keys T.prices T.seen T.waiting T.rings T.rules T.blocks T.log

abbrev pub set_tills : Tables → List ℕ → Tables
set_tills T x = tables_of T.setup T.net T.names x T.words T.keys T.prices T.seen T.waiting T.rings T.rules T.blocks T.log

abbrev pub set_words : Tables → List ℕ → Tables
set_words T x = tables_of T.setup T.net T.names T.tills x T.keys T.prices T.seen T.waiting T.rings T.rules T.blocks T.log

abbrev pub set_keys : Tables → List ℕ → Tables
set_keys T x = tables_of T.setup T.net T.names T.tills T.words x T.prices T.seen T.waiting T.rings T.rules T.blocks T.log

abbrev pub set_prices : Tables → List ℕ → Tables
set_prices T x = tables_of T.setup T.net T.names T.tills T.words T.keys x T.seen T.waiting T.rings T.rules T.blocks T.log

abbrev pub set_seen : Tables → List ℕ → Tables
set_seen T x = tables_of T.setup T.net T.names T.tills T.words T.keys T.prices x T.waiting T.rings T.rules T.blocks T.log

abbrev pub set_waiting : Tables → List ℕ → Tables
set_waiting T x = tables_of T.setup T.net T.names T.tills T.words T.keys T.prices T.seen x T.rings T.rules T.blocks T.log

abbrev pub set_rings : Tables → List ℕ → Tables
set_rings T x = tables_of T.setup T.net T.names T.tills T.words T.keys T.prices T.seen T.waiting x T.rules T.blocks T.log

abbrev pub set_rules : Tables → List ℕ → Tables
set_rules T x = tables_of T.setup T.net T.names T.tills T.words T.keys T.prices T.seen T.waiting T.rings x T.blocks T.log

abbrev pub set_blocks : Tables → List ℕ → Tables
set_blocks T x = tables_of T.setup T.net T.names T.tills T.words T.keys T.prices T.seen T.waiting T.rings T.rules x T.log

abbrev pub set_log : Tables → List ℕ → Tables
set_log T x = tables_of T.setup T.net T.names T.tills T.words T.keys T.prices T.seen T.waiting T.rings T.rules T.blocks x

-- every table that calls write; the four that the opening alone writes stay
abbrev pub set_nine : Tables → (net tills words seen waiting rings rules blocks log : List ℕ) → Tables
set_nine T net tills words seen waiting rings rules blocks log = tables_of T.setup net T.names tills words T.keys T.prices seen waiting rings rules blocks log

-- ---- What calls are lent

-- bring_up, set_handlers, is_down
abbrev pub lend_tills : Tables → (setup tills : List ℕ) → Tables
lend_tills T setup tills = set_tills (set_setup T setup) tills

-- marks_of
abbrev pub lend_seen : Tables → (setup seen : List ℕ) → Tables
lend_seen T setup seen = set_seen (set_setup T setup) seen

-- take_down
abbrev pub lend_tills_seen : Tables → (setup tills seen : List ℕ) → Tables
lend_tills_seen T setup tills seen = set_seen (set_tills (set_setup T setup) tills) seen

-- the calls on blocks
abbrev pub lend_blocks : Tables → (setup net blocks : List ℕ) → Tables
lend_blocks T setup net blocks = set_blocks (set_net (set_setup T setup) net) blocks

-- the calls on rules
abbrev pub lend_rules : Tables → (setup net rules : List ℕ) → Tables
lend_rules T setup net rules = set_rules (set_net (set_setup T setup) net) rules

-- readings of the waiting copies
abbrev pub lend_waiting : Tables → (setup net waiting : List ℕ) → Tables
lend_waiting T setup net waiting = set_waiting (set_net (set_setup T setup) net) waiting

-- the calls on the log
abbrev pub lend_log : Tables → (setup log : List ℕ) → Tables
lend_log T setup log = set_log (set_setup T setup) log

-- flush
abbrev pub lend_flush : Tables → (setup net tills seen waiting blocks log : List ℕ) → Tables
lend_flush T setup net tills seen waiting blocks log = set_log (set_blocks (set_waiting (set_seen (set_tills (set_net (set_setup T setup) net) tills) seen) waiting) blocks) log

-- accept
abbrev pub lend_accept : Tables → (setup net names tills words keys prices seen waiting rings rules blocks : List ℕ) → Tables
lend_accept T setup net names tills words keys prices seen waiting rings rules blocks = tables_of setup net names tills words keys prices seen waiting rings rules blocks T.log

-- ---- What the parts of an accept are lent

-- every selected till in turn: all but the names and the log
abbrev pub lend_serve : Tables → (setup net tills words keys prices seen waiting rings rules blocks : List ℕ) → Tables
lend_serve T setup net tills words keys prices seen waiting rings rules blocks = lend_accept T setup net T.names tills words keys prices seen waiting rings rules blocks

-- what becomes of a message at one till
abbrev pub lend_offer : Tables → (setup net tills words keys prices seen rings rules blocks : List ℕ) → Tables
lend_offer T setup net tills words keys prices seen rings rules blocks = lend_serve T setup net tills words keys prices seen T.waiting rings rules blocks

-- its draws
abbrev pub lend_draws : Tables → (setup net words keys prices rings rules : List ℕ) → Tables
lend_draws T setup net words keys prices rings rules = lend_offer T setup net T.tills words keys prices T.seen rings rules T.blocks

-- what that writes
abbrev pub lend_apply : Tables → (setup net words seen waiting rings rules : List ℕ) → Tables
lend_apply T setup net words seen waiting rings rules = lend_serve T setup net T.tills words T.keys T.prices seen waiting rings rules T.blocks

-- what a sent message writes
abbrev pub lend_send : Tables → (setup net words seen waiting rings : List ℕ) → Tables
lend_send T setup net words seen waiting rings = lend_apply T setup net words seen waiting rings T.rules
