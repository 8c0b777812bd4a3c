-- Document 01, questions 1 and 4 to 8: what a decision on one recipient needs of the lent tables and of the message: question 1 and questions 4 to 8 leave it.
use Rattle.std.specs.Prelude.{ℕ, ◌+◌, ◌*◌, ◌≤◌, ◌<◌, ◌≡◌, List, length}
use Rattle.table_rings.specs.Rings.{head_width, span, SoundRing, entry_of}
use Rattle.fault_rules.specs.Rules.{rule_slots, rule_width}
use Rattle.fault_blocks.specs.Blocks.{block_slots, block_width}
use Rattle.link_draws.specs.Drawing.{Priced}
use Rattle.spec_network.specs.Opening.{Sizes, link, links, global, longest_wire, latest_now, most_words, most_types, most_slots}
use Rattle.spec_network.specs.Live.{rings_of}
use Rattle.spec_network.specs.Tables.{cell, sizes_at, till_form, setup_width, net_width, rules_at, fault_words_at, blocks_at}
use Rattle.spec_network.specs.Real.{key_width}
use Rattle.call_offer.specs.declared.Outgoing.{Outgoing}

-- the tables that accept only reads
pub record Fixed (setup tills keys prices blocks : List ℕ) : Type 0 where
  pub priced : Priced setup prices
  pub types : (sizes_at setup).types ≤ most_types
  pub marks : (sizes_at setup).seen_slots ≤ most_slots
  pub tills_size : length tills ≡ (sizes_at setup).tills * till_form.width
  pub keys_size : length keys ≡ (sizes_at setup).tills * (sizes_at setup).tills * key_width
  pub blocks_size : length blocks ≡ block_slots * block_width

-- sender, type, scope, wire length and time in range
pub record Ranged (setup : List ℕ) (m : Outgoing) : Type 0 where
  pub from : m.from < (sizes_at setup).tills
  pub kind : m.kind < (sizes_at setup).types
  pub scope : m.scope ≤ global
  pub wire : m.wire ≤ longest_wire
  pub now : m.now ≤ latest_now

pub record RingsHeld (z : Sizes) (rings : List ℕ) : Type 0 where
  pub size : length rings ≡ rings_of z * (head_width + span)
  pub heads : (r : ℕ) → r < rings_of z → SoundRing rings r
  pub near : (r k : ℕ) → r < rings_of z → (entry_of (rings_of z) rings r k).wire ≤ longest_wire

pub record SeenHeld (z : Sizes) (seen : List ℕ) : Type 0 where
  pub size : length seen ≡ z.tills + z.tills * z.seen_slots
  pub counts : (t : ℕ) → t < z.tills → cell seen t ≤ z.seen_slots

-- those that it writes, before the recipient `to`; a little more than 2^40 words may be given when the last recipient's turn comes
pub record State (setup net words seen rings rules : List ℕ) : Type 0 where
  pub net_size : length net ≡ net_width
  pub rules_used : cell net rules_at ≤ rule_slots
  pub blocks_used : cell net blocks_at ≤ block_slots
  pub fault_words : cell net fault_words_at < 2 * most_words
  pub words_size : length words ≡ links
  pub seen_held : SeenHeld (sizes_at setup) seen
  pub rings_held : RingsHeld (sizes_at setup) rings
  pub rules_size : length rules ≡ rule_slots * rule_width

-- what the ring of a message needs
pub record Ringed (setup rings : List ℕ) (m : Outgoing) : Type 0 where
  pub setup_size : length setup ≡ setup_width
  pub types : (sizes_at setup).types ≤ most_types
  pub held : RingsHeld (sizes_at setup) rings
  pub ranged : Ranged setup m

-- what the rules' decision needs
pub record Rulable (setup net rules : List ℕ) : Type 0 where
  pub setup_size : length setup ≡ setup_width
  pub net_size : length net ≡ net_width
  pub used : cell net rules_at ≤ rule_slots
  pub words : cell net fault_words_at < 2 * most_words
  pub size : length rules ≡ rule_slots * rule_width

-- what the draws for the recipient need
pub record Drawable (setup net words keys prices rings rules : List ℕ) (m : Outgoing) (to : ℕ) : Type 0 where
  pub priced : Priced setup prices
  pub types : (sizes_at setup).types ≤ most_types
  pub keys_size : length keys ≡ (sizes_at setup).tills * (sizes_at setup).tills * key_width
  pub net_size : length net ≡ net_width
  pub rules_used : cell net rules_at ≤ rule_slots
  pub fault_words : cell net fault_words_at < 2 * most_words
  pub words_size : length words ≡ links
  pub rings_held : RingsHeld (sizes_at setup) rings
  pub rules_size : length rules ≡ rule_slots * rule_width
  pub ranged : Ranged setup m
  pub below : to < (sizes_at setup).tills
  pub fresh : cell words (link m.from to) < most_words
