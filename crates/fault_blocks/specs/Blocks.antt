-- Document 01, fault engine (`block`, `block_during`, `unblock`, `is_blocked`): the block table, the list of windows that it holds, and what the calls make of each.
use Rattle.std.specs.Prelude.{Result, Ok, Err, Bool, false, cond, not, ◌&&◌, ◌||◌, List, [], ◌∷◌, ℕ, ◌+◌, ◌*◌, length, get_or, eqb, ltb, refl}
use Rattle.std.proofs.Common.{arith}
use Rattle.table_shift.proofs.Blocks.{cells_eq}
use Rattle.table_rows.specs.Table.{Form, Exact}
use Rattle.table_shift.specs.Shift.{put_words}
use Rattle.table_rows.specs.Rows.{rows, keep, kept}
use Rattle.fault_rule.specs.declared.TimeWindow.{TimeWindow}
use Rattle.fault_rule.specs.declared.TimeWindow.TheVariants.{Always, During}
use Rattle.fault_rule.specs.Rule.{holds}
use Rattle.fault_blocks.specs.declared.BlockWindow.{BlockWindow}
use Rattle.fault_blocks.specs.declared.Full.{Full}

-- ---- the table

-- the words of a row, and the windows that may stand at a time
abbrev pub block_width : ℕ
block_width = 5

abbrev pub block_slots : ℕ
block_slots = 256

abbrev pub block_at : List ℕ → ℕ → BlockWindow
block_at ws b = record { from = get_or ws b 0; to = get_or ws (b + 1) 0; bounded = get_or ws (b + 2) 0; start = get_or ws (b + 3) 0; end = get_or ws (b + 4) 0 }

abbrev pub words : BlockWindow → List ℕ
words e = e.from ∷ e.to ∷ e.bounded ∷ e.start ∷ e.end ∷ []

unfoldable pub put_at : List ℕ → ℕ → BlockWindow → List ℕ
put_at ws b e = put_words ws b (words e)

abbrev pub first_block : List ℕ → BlockWindow
first_block ws = block_at ws 0

abbrev pub form : Form BlockWindow
form = record { width = block_width; read = first_block; words = words }

-- a window and its words: each way undoes the other
pub exact : Exact form
exact = record { long = λ e. refl; back = λ e m. refl; whole = λ l h. cells_eq l 0 0 block_width (omega arith) }

-- the first n blocks of a table
abbrev pub blocks_of : List ℕ → ℕ → List BlockWindow
blocks_of ws n = rows block_width first_block ws n

-- ---- the list of windows

-- a window of `block`, which always holds, and one of `block_during`
abbrev pub always : ℕ → ℕ → BlockWindow
always from to = record { from = from; to = to; bounded = 0; start = 0; end = 0 }

abbrev pub during : ℕ → ℕ → ℕ → ℕ → BlockWindow
during from to start end = record { from = from; to = to; bounded = 1; start = start; end = end }

unfoldable pub window_of : BlockWindow → TimeWindow
window_of e = cond (eqb e.bounded 0) Always (During e.start e.end)

-- a block of the directed pair
unfoldable pub joins : ℕ → ℕ → BlockWindow → Bool
joins from to e = eqb e.from from && eqb e.to to

unfoldable pub stops : ℕ → ℕ → ℕ → BlockWindow → Bool
stops from to at e = joins from to e && holds (window_of e) at

-- some window of the pair holds the time
unfoldable pub blocked : ℕ → ℕ → ℕ → List BlockWindow → Bool
blocked from to at [] = false
blocked from to at (e ∷ es) = stops from to at e || blocked from to at es

abbrev pub other : ℕ → ℕ → BlockWindow → Bool
other from to e = not (joins from to e)

-- the windows but every one of the pair, in their order
abbrev pub unblocked : ℕ → ℕ → List BlockWindow → List BlockWindow
unblocked from to es = keep (other from to) es

-- ---- what a call answers, and what it leaves in the table

-- the number of the question that refused, 0 where the window stands
abbrev pub number_in : {T : Type 0} → Result T Full → ℕ
number_in (Ok v) = 0
number_in (Err e) = 12

-- question 12: a place is free
unfoldable pub block_number : ℕ → ℕ
block_number n = cond (ltb n block_slots) 0 12

-- a new window stands last
unfoldable pub block_table : List ℕ → ℕ → BlockWindow → List ℕ
block_table ws n e = cond (ltb n block_slots) (put_at ws (n * block_width) e) ws

-- how many windows are left
unfoldable pub open_count : ℕ → ℕ → List ℕ → ℕ → ℕ
open_count from to ws n = length (unblocked from to (blocks_of ws n))

-- the windows that are left, and behind them what stood there
unfoldable pub unblock_table : ℕ → ℕ → List ℕ → ℕ → List ℕ
unblock_table from to ws n = kept block_width first_block words (other from to) ws n
