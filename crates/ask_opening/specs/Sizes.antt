-- Document 01, questions 1 and 2 (the opening's sizes): how long the tables of an opening are, for a caller that lends them. Sizes beyond the limits answer 2, and zeros.
use Rattle.std.specs.Prelude.{cond, ℕ, Result, Ok, Err}
use Rattle.ask_refusal.specs.declared.Refusal.{Refusal}
use Rattle.ask_refusal.specs.Refusals.{number_of}
use Rattle.spec_network.specs.Lists.{every}
use Rattle.spec_network.specs.Opening.{Settings}
use Rattle.spec_network.specs.Limits.{size_tests}
use Rattle.spec_network.specs.Open.{Lengths, lengths_of}
use Rattle.ask_opening.specs.declared.TableLengths.{TableLengths}
use Rattle.ask_opening.specs.declared.TableSizes.{TableSizes}

abbrev pub as_sizes : Lengths → TableSizes
as_sizes m = record {
  number = 0;
  setup = m.setup;
  net = m.net;
  names = m.names;
  tills = m.tills;
  words = m.words;
  keys = m.keys;
  prices = m.prices;
  seen = m.seen;
  waiting = m.waiting;
  rings = m.rings;
  rules = m.rules;
  blocks = m.blocks;
  log = m.log;
}

abbrev pub refused_sizes : ℕ → TableSizes
refused_sizes n = record { number = n; setup = 0; net = 0; names = 0; tills = 0; words = 0; keys = 0; prices = 0; seen = 0; waiting = 0; rings = 0; rules = 0; blocks = 0; log = 0 }

abbrev pub no_sizes : TableSizes
no_sizes = refused_sizes 2

unfoldable pub table_sizes : Settings → TableSizes
table_sizes x = cond (every (size_tests x)) (as_sizes (lengths_of x)) no_sizes

-- what C is answered, by the result
abbrev pub sizes_reply : Result TableLengths Refusal → TableSizes
sizes_reply (Ok n) = record {
  number = 0;
  setup = n.setup;
  net = n.net;
  names = n.names;
  tills = n.tills;
  words = n.words;
  keys = n.keys;
  prices = n.prices;
  seen = n.seen;
  waiting = n.waiting;
  rings = n.rings;
  rules = n.rules;
  blocks = n.blocks;
  log = n.log;
}
sizes_reply (Err e) = refused_sizes (number_of e)
