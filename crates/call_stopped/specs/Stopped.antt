-- Document 01, 'The book': stopped by a down till at either end, or by a block at that time, as the two tables hold it.
use Rattle.std.specs.Prelude.{Bool, not, ◌||◌, List, ℕ, ◌*◌, eqb}
use Rattle.fault_blocks.specs.Blocks.{blocked, blocks_of}
use Rattle.spec_network.specs.Tables.{cell, till_form}

-- a till's first cell says whether it is up
abbrev pub up_at : List ℕ → ℕ → Bool
up_at tills t = not (eqb (cell tills (t * till_form.width)) 0)

abbrev pub stopped_by : (tills blocks : List ℕ) (windows from to at : ℕ) → Bool
stopped_by tills blocks windows from to at = not (up_at tills from) || not (up_at tills to) || blocked from to at (blocks_of blocks windows)
