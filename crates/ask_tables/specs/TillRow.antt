-- Document 01, 'What changes shape' (maps, heap and rings become tables): a till as a row of `tills`.
use Rattle.std.specs.Prelude.{List, [], ◌∷◌, ℕ, get_or, refl}
use Rattle.std.proofs.Common.{arith}
use Rattle.table_shift.proofs.Blocks.{cells_eq}
use Rattle.table_rows.specs.Table.{Form, Exact}
use Rattle.spec_network.specs.Live as live
use Rattle.ask_tables.specs.declared.Till.{Till}

abbrev pub till_width : ℕ
till_width = 4

abbrev pub first_till : List ℕ → Till
first_till ws = record { up = get_or ws 0 0; gossip = get_or ws 1 0; host = get_or ws 2 0; shards = get_or ws 3 0 }

abbrev pub words : Till → List ℕ
words t = t.up ∷ t.gossip ∷ t.host ∷ t.shards ∷ []

abbrev pub form : Form Till
form = record { width = till_width; read = first_till; words = words }

-- a till and its words: each way undoes the other
pub exact : Exact form
exact = record { long = λ t. refl; back = λ t m. refl; whole = λ l h. cells_eq l 0 0 till_width (omega arith) }

-- the till that the row holds
abbrev pub live_till : Till → live.Till
live_till t = record { up = t.up; gossip = t.gossip; host = t.host; shards = t.shards }
