-- Document 01, 'What changes shape': maps, heap and rings become lent tables. Cells that fit their memory: 64 bits, 32 for a key's words, 8 for a name's bytes.
use Rattle.std.specs.Prelude.{ℕ, ◌^◌, ◌<◌, List, [], ◌∷◌}
use Rattle.table_rows.specs.Lists.{Each}
use Rattle.spec_network.specs.Calls.{Call, accept, flush, take_down, bring_up, handlers, block, block_during, unblock, install, remove, decide, drain, reading}
use Rattle.spec_network.specs.Tables.{Tables}
use Rattle.spec_book.specs.Demand3.{Item, own, others, reopen}

abbrev pub Fit : ℕ → List ℕ → Type 0
Fit bits l = Each (λ (v : ℕ). v < 2 ^ bits) l

pub record CellsFit (T : Tables) : Type 0 where
  pub setup : Fit 64 T.setup
  pub net : Fit 64 T.net
  pub names : Fit 8 T.names
  pub tills : Fit 64 T.tills
  pub words : Fit 64 T.words
  pub keys : Fit 32 T.keys
  pub prices : Fit 64 T.prices
  pub seen : Fit 64 T.seen
  pub waiting : Fit 64 T.waiting
  pub rings : Fit 64 T.rings
  pub rules : Fit 64 T.rules
  pub blocks : Fit 64 T.blocks
  pub log : Fit 64 T.log

-- the numbers of a call that no question bounds
abbrev pub CallFits : Call → Type 0
CallFits (accept e opens) = e.tag < 2 ^ 64
CallFits (block_during from to start end) = (start < 2 ^ 64) × (end < 2 ^ 64)
CallFits (install card) = Fit 8 card
CallFits (flush now rows) = Unit {0}
CallFits (take_down t) = Unit {0}
CallFits (bring_up t shards) = Unit {0}
CallFits (handlers t gossip host) = Unit {0}
CallFits (block from to) = Unit {0}
CallFits (unblock from to) = Unit {0}
CallFits (remove id) = Unit {0}
CallFits (decide x) = Unit {0}
CallFits (drain rows) = Unit {0}
CallFits (reading r) = Unit {0}

abbrev pub ItemFits : Item → Type 0
ItemFits (own room c) = CallFits c
ItemFits (others X c) = Unit {0}
ItemFits (reopen X y ms) = Unit {0}

abbrev pub ItemsFit : List Item → Type 0
ItemsFit [] = Unit {0}
ItemsFit (i ∷ is) = ItemFits i × ItemsFit is
