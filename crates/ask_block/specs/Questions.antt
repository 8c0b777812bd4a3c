-- Document 01, questions 1, 4, 7 and 12, and document 02, M-110, question 18, for the block calls: as the code asks them, of the lent tables.
use Rattle.std.specs.Prelude.{Bool, true, cond, ◌&&◌, List, ℕ, max, leb, ltb}
use Rattle.fault_rule.specs.declared.TimeWindow.TheVariants.{During}
use Rattle.fault_rule.specs.Rule.{forward}
use Rattle.fault_blocks.specs.Blocks.{block_slots, block_number}
use Rattle.spec_network.specs.Opening.{latest_now}
use Rattle.spec_network.specs.Tables.{cell, sizes_at, blocks_at}
use Rattle.ask_tables.specs.Held.{setup_held, net_held, blocks_held}

-- 1
unfoldable pub blocks_lent : (setup net blocks : List ℕ) → Bool
blocks_lent s n b = setup_held s && (net_held s n && (blocks_held s n b && true))

-- 1 and 4, then the rest
unfoldable pub pair_number : (setup net blocks : List ℕ) (from to rest : ℕ) → ℕ
pair_number s n b from to rest = cond (blocks_lent s n b) (cond (ltb (max from to) (sizes_at s).tills) rest 4) 1

-- 12; 12, then 18; and 7
abbrev pub free_number : List ℕ → ℕ
free_number n = block_number (cell n blocks_at)

unfoldable pub window_number : (start end : ℕ) → ℕ
window_number start end = cond (forward (During start end)) 0 18

unfoldable pub during_number : (net : List ℕ) (start end : ℕ) → ℕ
during_number n start end = cond (ltb (cell n blocks_at) block_slots) (window_number start end) 12

unfoldable pub now_number : ℕ → ℕ
now_number now = cond (leb now latest_now) 0 7
